-- Feedings of methods that hold nothing back, and what a feeding leaves in its buffer.
use Rattle.std.proofs.Common.{◌≡◌, ℕ, ◌++◌, length, take, drop, Some, sym, refl, ap, ◌∙◌, subst}
use Rattle.std.proofs.lemmas.List.{take_at, drop_at}
use Rattle.byte_strings.specs.Bytes.{Bytes, Writes}
use Rattle.rc4.specs.declared.Rc4.{Rc4}
use Rattle.rc4.specs.Rc4.{stream}
use Rattle.rc4.specs.Rc4 as rc4
use Rattle.rc4.proofs.Streams.{joins, length-stream}
use Rattle.methods.specs.Running.{Residual, Feeds, Fed}
use Rattle.methods.specs.Identity.{copying}
use Rattle.methods.specs.Rc4Method.{streaming}

-- what is handed out stands at the front of the buffer
pub fed : (q t : Residual) (p w old new : Bytes) (n : ℕ) → Feeds q p w t → n ≡ length w → Writes w old new → Fed q p old t n new
fed q t p w old new n feeds count writes =
    let is : new ≡ w ++ drop n old = writes ∙ ap (λ (k : ℕ). w ++ drop k old) (sym count) in
    record {
      feeds = subst (λ (v : Bytes). Feeds q p v t) (sym (ap (take n) is ∙ take_at w (drop n old) n (sym count))) feeds;
      count = count ∙ feeds.exact;
      behind = ap (drop n) is ∙ drop_at w (drop n old) n (sym count);
    }

pub copied : (p old new : Bytes) (n : ℕ) → n ≡ length p → Writes p old new → Fed copying p old copying n new
copied p old new n count writes = fed copying copying p p old new n (record {
  split = λ r. refl;
  exact = refl;
  space = refl;
  steady = λ _. record { hands = λ m. refl; later = λ m. refl; still = refl };
}) count writes

pub streamed : (c t : Rc4) (p old new : Bytes) (n : ℕ) → t ≡ rc4.after c p → n ≡ length (stream c p) → Writes (stream c p) old new → Fed (streaming c) p old (streaming t) n new
streamed c t p old new n t-is count writes = fed (streaming c) (streaming t) p (stream c p) old new n (record {
  split = λ r. ap Some ((joins c p r).0 ∙ ap (λ (k : Rc4). stream c p ++ stream k r) (sym t-is));
  exact = length-stream c p;
  space = refl;
  steady = λ _. record { hands = λ m. refl; later = λ m. refl; still = refl };
}) count writes
