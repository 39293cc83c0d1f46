-- What `map` on an array of numbers gives, where its closure computes a function.
use Rattle.std.proofs.Common.{◌≡◌, ℕ, zero, suc, ◌+◌, ◌<◌, ◌≤◌, List, map, length, get_or, sym, ap, ◌∙◌, subst, inl, inr, arith}
use Rattle.std.proofs.lemmas.Bool.{cases_eq}
use Rattle.std.proofs.lemmas.List.{same_lists, get_or-map, length-map}
use Rattle.std.specs.Array.{IsMapOf, MapsFrom}
use denote.Param.Members.{Mut, Called}

module _ {F B : Type 0} (g : Mut F (ℕ × Unit {0}) B) (v : ℕ → B) (f : F) (step : (x : ℕ) (y : B) (q : F) → Called g f (x, tt) y q → (y ≡ v x) × (q ≡ f)) (xs : List ℕ) (ys : List B) where
  mapped-from : (n i : ℕ) → MapsFrom g f xs ys i n → (k : ℕ) (e : B) → i ≤ k → k < i + n → get_or ys k e ≡ v (get_or xs k 0)
  mapped-from zero i is k e low high = let z : ⊥ = omega arith in absurd z
  mapped-from (suc n) i is k e low high =
      let call = step is.1 is.2 is.0 is.5 in
      let next : MapsFrom g f xs ys (i + 1) n = subst (λ q. MapsFrom g q xs ys (i + 1) n) call.1 is.6 in
      elim (cases_eq i k) [
        | inl here ↦ subst (λ j. get_or ys j e ≡ v (get_or xs j 0)) here (is.4.1 e ∙ call.0 ∙ ap v (sym (is.3.1 0)))
        | inr ne ↦ mapped-from n (i + 1) next k e (omega arith) (omega arith)
      ]

  pub mapped : (n : ℕ) → n ≡ length xs → IsMapOf g f xs ys n → ys ≡ map v xs
  mapped n long is =
      same_lists ys (map v xs) (is.long ∙ long ∙ sym (length-map xs v)) (λ k e h.
      let len = is.long in
      let here : k < length xs = omega arith in
      mapped-from n 0 is.each k e (omega arith) (omega arith) ∙ sym (get_or-map v xs k 0 e here))
