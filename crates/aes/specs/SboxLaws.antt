-- The S-boxes by powers, which compute faster than the search for an inverse; they keep to bytes and undo each other.
use Rattle.std.specs.Prelude.{◌≡◌, ℕ, zero, suc, ◌/◌, ◌<◌, refl}
use Rattle.std.proofs.Common.{sym, ap, subst, ◌∙◌, arith}
use Rattle.aes.specs.Field.{product}
use Rattle.aes.specs.Sbox.{inverse, affine, affine_back, sbox, inv_sbox}
use Rattle.aes.specs.Table.{same}

-- b to the power 2 + 4 + .. + 2^n
abbrev powers : ℕ → ℕ → ℕ
powers zero b = 1
powers (suc n) b = product (product b b) (powers n (product b b))

-- b to the power 254
inverse_is : (b : ℕ) → b < 256 → inverse b ≡ powers 7 b
unfolding inverse product
inverse_is = same inverse (powers 7) refl

-- a table whose entries keep to bytes
kept : (f : ℕ → ℕ) → ((b : ℕ) → b < 256 → f b / 256 ≡ 0) → (b : ℕ) → b < 256 → f b < 256
kept f e b h = let z = e b h in omega (arith, z)

abbrev pub fast_sbox : ℕ → ℕ
fast_sbox b = affine (powers 7 b)

abbrev pub fast_inv_sbox : ℕ → ℕ
fast_inv_sbox b = powers 7 (affine_back b)

fast_lt : (b : ℕ) → b < 256 → fast_sbox b < 256
unfolding product
fast_lt = kept fast_sbox (same (λ x. fast_sbox x / 256) (λ x. 0) refl)

fast_inv_lt : (b : ℕ) → b < 256 → fast_inv_sbox b < 256
unfolding product
fast_inv_lt = kept fast_inv_sbox (same (λ x. fast_inv_sbox x / 256) (λ x. 0) refl)

pub sbox_is : (b : ℕ) → b < 256 → fast_sbox b ≡ sbox b
unfolding sbox
sbox_is b h = sym (ap affine (inverse_is b h))

pub inv_sbox_is : (b : ℕ) → b < 256 → fast_inv_sbox b ≡ inv_sbox b
unfolding inv_sbox
inv_sbox_is b h = sym (inverse_is (affine_back b) (kept affine_back (same (λ x. affine_back x / 256) (λ x. 0) refl) b h))

pub sbox-lt : (b : ℕ) → b < 256 → sbox b < 256
sbox-lt b h = subst (λ (x : ℕ). x < 256) (sbox_is b h) (fast_lt b h)

pub inv_sbox-lt : (b : ℕ) → b < 256 → inv_sbox b < 256
inv_sbox-lt b h = subst (λ (x : ℕ). x < 256) (inv_sbox_is b h) (fast_inv_lt b h)

pub sbox_undone : (b : ℕ) → b < 256 → inv_sbox (sbox b) ≡ b
unfolding product
sbox_undone b h = sym (ap inv_sbox (sbox_is b h)) ∙ sym (inv_sbox_is (fast_sbox b) (fast_lt b h)) ∙ same (λ x. fast_inv_sbox (fast_sbox x)) (λ x. x) refl b h

pub inv_sbox_undone : (b : ℕ) → b < 256 → sbox (inv_sbox b) ≡ b
unfolding product
inv_sbox_undone b h = sym (ap sbox (inv_sbox_is b h)) ∙ sym (sbox_is (fast_inv_sbox b) (fast_inv_lt b h)) ∙ same (λ x. fast_sbox (fast_inv_sbox x)) (λ x. x) refl b h
