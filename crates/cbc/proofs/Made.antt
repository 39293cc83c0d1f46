-- An array that a closure makes place by place, where no call changes the closure.
use denote.Param.Members.{Mut}
use Rattle.std.proofs.Common.{◌≡◌, ℕ, zero, suc, ◌+◌, ◌<◌, List, map, slice_index_or, refl, ◌∙◌, subst, arith}
use Rattle.std.specs.Fn.{Called}
use Rattle.std.specs.Array.{IsFromFnResult, IsFromFnResultFrom}
use Rattle.std.specs.List.{range_with_len}
use Rattle.std.proofs.lemmas.List.FromFn.{fill_by_all}

module _ {F B : Type 0} (g : Mut F (ℕ × Unit {0}) B) (h : ℕ → B) (f : F) (one : (i : ℕ) (y : B) (q : F) → Called g f (i, tt) y q → (y ≡ h i) × (q ≡ f)) where
  made_from : (n i : ℕ) (p : F) (ys : List B) → p ≡ f → IsFromFnResultFrom g p ys i n → (k j : ℕ) (d : B) → k < n → i + k ≡ j → slice_index_or ys j d ≡ h j
  made_from zero i p ys e made k j d l at = absurd (omega arith)
  made_from (suc n) i p ys e made zero j d l at =
      let here = one i made.1 made.0 (subst (λ (x : F). Called g x (i, tt) made.1 made.0) e made.3) in
      subst (λ (m : ℕ). slice_index_or ys m d ≡ h m) (omega arith) (made.2.1 d ∙ here.0)
  made_from (suc n) i p ys e made (suc k) j d l at =
      let here = one i made.1 made.0 (subst (λ (x : F). Called g x (i, tt) made.1 made.0) e made.3) in
      made_from n (i + 1) made.0 ys here.1 made.4 k j d (omega arith) (omega (arith, at))

  pub made : (n : ℕ) (ys : List B) → IsFromFnResult g f ys n → (d : B) → ys ≡ map h (range_with_len 0 n)
  made n ys from d = fill_by_all h ys n d from.long (λ k l. made_from n 0 f ys refl from.each k k d l (omega arith))
