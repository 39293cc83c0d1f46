-- The padded password is what was written to the area's front.
use Rattle.std.proofs.Common.{◌≡◌, ℕ, ◌-◌, length, take, drop, ap, ◌∙◌, subst, arith}
use Rattle.std.proofs.lemmas.List.{take_at}
use Rattle.byte_strings.specs.Bytes.{Bytes, Writes}
use Rattle.keys.specs.Password.{padded, Padded}
use Rattle.keys.proofs.Pads.{length-padded}
use Rattle.opening.proofs.work.padded.Goals as goal

front : (password old new : Bytes) (n : ℕ) → n ≡ 32 → Writes (padded password) old new → take (n - 0) new ≡ padded password
front password old new n is w =
    let e : n - 0 ≡ 32 = omega arith in
    ap (λ k. take k new) e ∙ ap (take 32) w ∙ take_at (padded password) (drop (length (padded password)) old) 32 (length-padded password)

pub returns : goal.returns
returns c =
    let is = subst (λ o. Padded c.args.password.now c.args.area.now o c.pad_password.new.area) c.in_ok-n.ensures.ok_part c.pad_password.ensures in
    (is.0, front c.args.password.now c.args.area.now _ _ is.1 is.2)
