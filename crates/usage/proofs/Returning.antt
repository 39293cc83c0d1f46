-- What a protecting wrote lies in its buffer, and what the promise says of restoring it.
use Rattle.std.proofs.Common.{◌≡◌, ℕ, ◌+◌, ◌≤◌, Bool, true, false, length, take, drop, Some, Ok, Err, ap, ◌∙◌, subst, inl, inr, arith}
use Rattle.std.proofs.lemmas.List.{length-append}
use Rattle.std.proofs.lemmas.Bool.{cases_lt}
use Rattle.byte_strings.specs.Bytes.{Bytes, Octets}
use Rattle.opening.specs.declared.refusal.Refusal.{Refusal}
use Rattle.opening.specs.declared.refusal.Refusal.TheVariants.{WorkSpace, USpace, NoSpace}
use Rattle.opening.specs.File.{Opened}
use Rattle.reader.specs.declared.object.Object.{Object}
use Rattle.reader.specs.declared.output.Output.{Output}
use Rattle.reader.specs.declared.output.Mark.TheVariants.{Restored}
use Rattle.reader.specs.Object.{Choice, Protected, Gives, Protects, Restores}
use Rattle.promises.specs.Promises.{ComesBack}

pub stored_fits : (b : Bool) (k : ℕ) (w old new : Bytes) (n : ℕ) → Protected b k w old (Ok n) new → n ≤ length new
stored_fits false k w old new n (p, _) = let z : ◌≡◌ {A = ℕ} 0 1 = cc in absurd (omega arith)
stored_fits true k w old new n (short, enough) =
    elim (cases_lt (length old) k) [
      | inl less ↦ (let s = (short less).0 in let z : ◌≡◌ {A = ℕ} 0 1 = cc in absurd (omega arith))
      | inr more ↦
          (let count : n ≡ length w = cc (enough more).0 in
          let long : length new ≡ length w + length (drop (length w) old) = ap length (enough more).1 ∙ length-append w (drop (length w) old) in
          omega arith)
    ]

module _ (x y : Opened) (c : Choice) (back : ComesBack x y c) (o : Object) (vector original stored_in stored restored_in restored : Bytes) (n k : ℕ) where
  -- an accepted restoring gives the original
  pub returned : length vector ≡ 16 → Octets vector → Octets original → Protects x c o vector original stored_in (Ok n) stored → k ≡ n → (p : Output) → Restores y c o (take k stored) restored_in (Ok p) restored → Gives Restored (Some original) restored_in (Ok p) restored
  returned sixteen vectors originals protects same p restores =
      back o vector original stored_in stored restored_in restored n (Ok p) sixteen vectors originals protects (subst (λ i. Restores y c o (take i stored) restored_in (Ok p) restored) same restores) (
        (λ e. (let z : ◌≡◌ {A = ℕ} 0 1 = cc in omega arith)),
        (λ e. (let z : ◌≡◌ {A = ℕ} 0 1 = cc in omega arith)),
        (λ e. (let z : ◌≡◌ {A = ℕ} 0 1 = cc in omega arith)),
      )

  -- a refused one is refused for space
  pub refused_for_space : length vector ≡ 16 → Octets vector → Octets original → Protects x c o vector original stored_in (Ok n) stored → k ≡ n → (e : Refusal) → Restores y c o (take k stored) restored_in (Err e) restored → (e ≡ WorkSpace → ⊥) → (e ≡ USpace → ⊥) → (e ≡ NoSpace → ⊥) → ⊥
  refused_for_space sixteen vectors originals protects same e restores no-work no-u no-space =
      let r = back o vector original stored_in stored restored_in restored n (Err e) sixteen vectors originals protects (subst (λ i. Restores y c o (take i stored) restored_in (Err e) restored) same restores) (
        (λ h. no-work (cc)),
        (λ h. no-u (cc)),
        (λ h. no-space (cc)),
      ) in
      let z : ◌≡◌ {A = ℕ} 0 1 = cc r.0 in omega arith
