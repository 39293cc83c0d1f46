-- The fold is the steps, and the sums at the end.
use Rattle.std.proofs.Common.{◌≡◌, fold, sym, refl, ap, ◌∙◌, rules}
use Rattle.std.proofs.iter.Yields.{nat_range_steps, Range-gives}
use Rattle.std.proofs.lemmas.Fn.{fold_over}
use Rattle.std.proofs.lemmas.List.Sums.{fold_push}
use Rattle.std.specs.List.{range_with_len}
use Rattle.md5_digest.specs.declared.Registers.{Registers}
use Rattle.md5_digest.specs.Md5.{sum32, step, words, compressed}
use Rattle.md5_digest.proofs.Steps.{fold_is_steps}
use Rattle.md5_digest.proofs.compress.Goals as goal

added : Registers → Registers → Registers
added h v = record { a = sum32 h.a v.a; b = sum32 h.b v.b; c = sum32 h.c v.c; d = sum32 h.d v.d }

pub returns : goal.returns
unfolding compressed added
returns c =
    let ws = words 16 c.args.block.now in
    let folded : c.fold-v.result ≡ fold (λ v i. step (words 16 c.args.block.now) i v) c.args.h (range_with_len 0 64) =
    fold_over nat_range_steps (λ i. i) _ (λ is v. v ≡ fold (λ v i. step ws i v) c.args.h is) _
    (λ is v i w f' before k.
    let stepped : w ≡ step (words 16 c.args.block.now) i v = search rules in
    (stepped ∙ ap (step ws i) before ∙ sym (fold_push (λ v i. step ws i v) c.args.h is i), search rules))
    (record { start = 0; end = 64 }) (range_with_len 0 64) _ _ (Range-gives (record { start = 0; end = 64 })) refl c.fold-v.ensures.ran in
    ap (added c.args.h) (folded ∙ fold_is_steps ws c.args.h 64)
