-- Each entry is its own place.
use Rattle.std.proofs.Common.{◌≡◌, ℕ, ◌<◌, get_or, ◌∙◌, rules}
use Rattle.std.proofs.lemmas.List.{map-id}
use Rattle.std.proofs.lemmas.List.FromFn.{fill_by_all}
use Rattle.std.specs.List.{range_with_len}
use Rattle.rc4.specs.Rc4.{identity}
use Rattle.rc4.proofs.ascending.Goals as goal

pub returns : goal.returns
unfolding identity
returns c =
    let entry : (k : ℕ) → k < 256 → get_or c.from_fn.result k 0 ≡ k = λ k h. let call = c.from_fn.ensures.items.at k 0 h in search rules in
    fill_by_all (λ k. k) c.from_fn.result 256 0 c.from_fn.ensures.items.long entry ∙ map-id (range_with_len 0 256)
