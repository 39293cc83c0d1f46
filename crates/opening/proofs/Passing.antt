-- What a check that was passed says.
use Rattle.std.proofs.Common.{◌≡◌, ℕ, Bool, true, false, Some, None, Ok, Err, Option, Result, refl}
use Rattle.opening.specs.declared.refusal.Refusal.{Refusal}
use Rattle.opening.specs.Checks.{refuse, given, sound, and_then}

pub refuse_ok : {A : Type 0} (b : Bool) (e : Refusal) (go : Result A Refusal) (x : A) → refuse b e go ≡ Ok x → (b ≡ false) × (go ≡ Ok x)
refuse_ok true e go x h = cc
refuse_ok false e go x h = (refl, h)

pub given_ok : {A B : Type 0} (o : Option A) (e : Refusal) (go : A → Result B Refusal) (x : B) → given o e go ≡ Ok x → (a : A) × (o ≡ Some a) × (go a ≡ Ok x)
given_ok (Some a) e go x h = (a, refl, h)
given_ok None e go x h = cc

pub sound_ok : {A : Type 0} (o : Option ℕ) (go : Result A Refusal) (x : A) → sound o go ≡ Ok x → (o ≡ None) × (go ≡ Ok x)
sound_ok (Some i) go x h = cc
sound_ok None go x h = (refl, h)

pub then_ok : {A B : Type 0} (r : Result A Refusal) (go : A → Result B Refusal) (x : B) → and_then r go ≡ Ok x → (a : A) × (r ≡ Ok a) × (go a ≡ Ok x)
then_ok (Ok a) go x h = (a, refl, h)
then_ok (Err e) go x h = cc
