-- Sums and products of bytes in the field: a product is linear in its second factor, and the two column matrices undo each other.
use Rattle.std.specs.Prelude.{◌≡◌, ℕ, zero, suc, ◌*◌, ◌/◌, ◌%◌, ◌<◌, bit_xor, refl}
use Rattle.std.proofs.Common.{sym, ap, ap₂, subst, ◌∙◌, add-zero, zero-mul, one-mul, mod-lt, arith, lit<}
use Rattle.std.specs.Int.Bits.{xor_assoc, xor_self, xor_zero_r}
use Rattle.std.proofs.lemmas.Nat.{xor_comm, xor_block, xor_shr, xor_lt}
use Rattle.aes.specs.Field.{xtime, product_of, product}
use Rattle.aes.specs.State.{sum4}
use Rattle.aes.specs.Table.{same}

-- sums
pub medial : (a b c d : ℕ) → bit_xor (bit_xor a b) (bit_xor c d) ≡ bit_xor (bit_xor a c) (bit_xor b d)
medial a b c d =
    xor_assoc a b (bit_xor c d)
    ∙ ap (bit_xor a) (sym (xor_assoc b c d) ∙ ap (λ x. bit_xor x d) (xor_comm b c) ∙ xor_assoc c b d)
    ∙ sym (xor_assoc a c (bit_xor b d))

pub undo_xor : (a k : ℕ) → bit_xor (bit_xor a k) k ≡ a
undo_xor a k = xor_assoc a k k ∙ ap (bit_xor a) (xor_self k) ∙ xor_zero_r a

pub byte_xor : {a b : ℕ} → a < 256 → b < 256 → bit_xor a b < 256
byte_xor {a} {b} ha hb = xor_lt 8 a b ha hb

pub rotate : (a b c d : ℕ) → sum4 a b c d ≡ sum4 d a b c
rotate a b c d =
    xor_comm (bit_xor a b) (bit_xor c d) ∙ ap (λ x. bit_xor x (bit_xor a b)) (xor_comm c d) ∙ medial d c a b
    ∙ ap (bit_xor (bit_xor d a)) (xor_comm c b)

pub add4 : (a b c d p q r t : ℕ) → bit_xor (sum4 a b c d) (sum4 p q r t) ≡ sum4 (bit_xor a p) (bit_xor b q) (bit_xor c r) (bit_xor d t)
add4 a b c d p q r t =
    medial (bit_xor a b) (bit_xor c d) (bit_xor p q) (bit_xor r t) ∙ ap₂ bit_xor (medial a b p q) (medial c d r t)

transposed : (a b c d p q r t i j k l w x y z : ℕ)
    → sum4 (sum4 a b c d) (sum4 p q r t) (sum4 i j k l) (sum4 w x y z) ≡ sum4 (sum4 a p i w) (sum4 b q j x) (sum4 c r k y) (sum4 d t l z)
transposed a b c d p q r t i j k l w x y z =
    ap₂ bit_xor (add4 a b c d p q r t) (add4 i j k l w x y z)
    ∙ add4 (bit_xor a p) (bit_xor b q) (bit_xor c r) (bit_xor d t) (bit_xor i w) (bit_xor j x) (bit_xor k y) (bit_xor l z)

-- products
doubled : (a b : ℕ) → bit_xor a b * 2 ≡ bit_xor (a * 2) (b * 2)
doubled a b = sym (simp add-zero at (xor_block 1 a b 0 0 (lit< tt) (lit< tt)))

-- a digit times a sum, and a sum of digits times a number
spread : (u b c : ℕ) → u < 2 → u * bit_xor b c ≡ bit_xor (u * b) (u * c)
spread zero b c h = zero-mul (bit_xor b c) ∙ sym (ap₂ bit_xor (zero-mul b) (zero-mul c))
spread (suc zero) b c h = one-mul (bit_xor b c) ∙ sym (ap₂ bit_xor (one-mul b) (one-mul c))
spread (suc (suc u)) b c h = absurd (omega arith)

scaled : (u v c : ℕ) → u < 2 → v < 2 → bit_xor u v * c ≡ bit_xor (u * c) (v * c)
scaled zero v c h k = sym (ap (λ x. bit_xor x (v * c)) (zero-mul c))
scaled (suc zero) zero c h k = sym (ap (bit_xor (1 * c)) (zero-mul c) ∙ xor_zero_r (1 * c))
scaled (suc zero) (suc zero) c h k = zero-mul c ∙ sym (xor_self (1 * c))
scaled (suc zero) (suc (suc v)) c h k = absurd (omega arith)
scaled (suc (suc u)) v c h k = absurd (omega arith)

pub xtime_xor : (a b : ℕ) → a < 256 → b < 256 → xtime (bit_xor a b) ≡ bit_xor (xtime a) (xtime b)
xtime_xor a b ha hb =
    ap₂ bit_xor (doubled a b) (ap (λ x. x * 283) (xor_shr a b 7) ∙ scaled (a / 128) (b / 128) 283 (omega arith) (omega arith))
    ∙ medial (a * 2) (b * 2) (a / 128 * 283) (b / 128 * 283)

pub xtime-lt : (b : ℕ) → b < 256 → xtime b < 256
xtime-lt b h = let e : xtime b / 256 ≡ 0 = same (λ x. xtime x / 256) (λ x. 0) refl b h in omega (arith, e)

digit_lt : (u b : ℕ) → u < 2 → b < 256 → u * b < 256
digit_lt zero b h k = subst (λ (x : ℕ). x < 256) (sym (zero-mul b)) (lit< tt)
digit_lt (suc zero) b h k = subst (λ (x : ℕ). x < 256) (sym (one-mul b)) k
digit_lt (suc (suc u)) b h k = absurd (omega arith)

product_of-lt : (n a b : ℕ) → b < 256 → product_of n a b < 256
product_of-lt zero a b h = lit< tt
product_of-lt (suc n) a b h = byte_xor (digit_lt (a % 2) b (mod-lt a (lit< tt)) h) (product_of-lt n (a / 2) (xtime b) (xtime-lt b h))

product_of_xor : (n a b c : ℕ) → b < 256 → c < 256 → product_of n a (bit_xor b c) ≡ bit_xor (product_of n a b) (product_of n a c)
product_of_xor zero a b c hb hc = refl
product_of_xor (suc n) a b c hb hc =
    ap₂ bit_xor (spread (a % 2) b c (mod-lt a (lit< tt)))
    (ap (product_of n (a / 2)) (xtime_xor b c hb hc) ∙ product_of_xor n (a / 2) (xtime b) (xtime c) (xtime-lt b hb) (xtime-lt c hc))
    ∙ medial (a % 2 * b) (a % 2 * c) (product_of n (a / 2) (xtime b)) (product_of n (a / 2) (xtime c))

pub product_lt : (a b : ℕ) → b < 256 → product a b < 256
unfolding product
product_lt a b h = product_of-lt 8 a b h

pub product_xor : (a b c : ℕ) → b < 256 → c < 256 → product a (bit_xor b c) ≡ bit_xor (product a b) (product a c)
unfolding product
product_xor a b c hb hc = product_of_xor 8 a b c hb hc

product-sum4 : (m a b c d : ℕ) → a < 256 → b < 256 → c < 256 → d < 256 → product m (sum4 a b c d) ≡ sum4 (product m a) (product m b) (product m c) (product m d)
product-sum4 m a b c d ha hb hc hd =
    product_xor m (bit_xor a b) (bit_xor c d) (byte_xor ha hb) (byte_xor hc hd) ∙ ap₂ bit_xor (product_xor m a b ha hb) (product_xor m c d hc hd)

-- the first byte of a column through the matrix of the first row i j k l and then that of p q r t
abbrev pub twice : ℕ → ℕ → ℕ → ℕ → ℕ → ℕ → ℕ → ℕ → ℕ → ℕ → ℕ → ℕ → ℕ
twice p q r t i j k l a b c d =
    sum4 (product p (sum4 (product i a) (product j b) (product k c) (product l d)))
    (product q (sum4 (product i b) (product j c) (product k d) (product l a)))
    (product r (sum4 (product i c) (product j d) (product k a) (product l b)))
    (product t (sum4 (product i d) (product j a) (product k b) (product l c)))

-- one byte through two matrices, where each of the four products is made of two
abbrev pub through : ℕ → ℕ → ℕ → ℕ → ℕ → ℕ → ℕ → ℕ → ℕ → ℕ
through p i q j r k t l a = sum4 (product p (product i a)) (product q (product j a)) (product r (product k a)) (product t (product l a))

-- a row of the outer matrix p q r t over the columns of the inner i j k l gives the first byte back, if each byte's share does
module _ (p q r t i j k l : ℕ)
    (own : (x : ℕ) → x < 256 → through p i q l r k t j x ≡ x)
    (next : (x : ℕ) → x < 256 → through p j q i r l t k x ≡ 0)
    (second : (x : ℕ) → x < 256 → through p k q j r i t l x ≡ 0)
    (third : (x : ℕ) → x < 256 → through p l q k r j t i x ≡ 0) where
  row : (m a b c d : ℕ) → a < 256 → b < 256 → c < 256 → d < 256
      → product m (sum4 (product i a) (product j b) (product k c) (product l d)) ≡ sum4 (product m (product i a)) (product m (product j b)) (product m (product k c)) (product m (product l d))
  row m a b c d ha hb hc hd =
      product-sum4 m (product i a) (product j b) (product k c) (product l d) (product_lt i a ha) (product_lt j b hb) (product_lt k c hc) (product_lt l d hd)

  pub undone : (a b c d : ℕ) → a < 256 → b < 256 → c < 256 → d < 256 → twice p q r t i j k l a b c d ≡ a
  undone a b c d ha hb hc hd =
      let m : ℕ → ℕ → ℕ → ℕ = λ x y z. product x (product y z) in
      ap₂ bit_xor
      (ap₂ bit_xor (row p a b c d ha hb hc hd)
      (row q b c d a hb hc hd ha ∙ rotate (m q i b) (m q j c) (m q k d) (m q l a)))
      (ap₂ bit_xor
      (row r c d a b hc hd ha hb ∙ rotate (m r i c) (m r j d) (m r k a) (m r l b) ∙ rotate (m r l b) (m r i c) (m r j d) (m r k a))
      (row t d a b c hd ha hb hc ∙ sym (rotate (m t j a) (m t k b) (m t l c) (m t i d))))
      ∙ transposed (m p i a) (m p j b) (m p k c) (m p l d) (m q l a) (m q i b) (m q j c) (m q k d)
      (m r k a) (m r l b) (m r i c) (m r j d) (m t j a) (m t k b) (m t l c) (m t i d)
      ∙ ap₂ bit_xor (ap₂ bit_xor (own a ha) (next b hb)) (ap₂ bit_xor (second c hc) (third d hd))
      ∙ xor_zero_r (bit_xor a 0) ∙ xor_zero_r a

pub mix_undone : (a b c d : ℕ) → a < 256 → b < 256 → c < 256 → d < 256 → twice 14 11 13 9 2 3 1 1 a b c d ≡ a
unfolding product
mix_undone =
    undone 14 11 13 9 2 3 1 1 (same (through 14 2 11 1 13 1 9 3) (λ x. x) refl) (same (through 14 3 11 2 13 1 9 1) (λ x. 0) refl)
    (same (through 14 1 11 3 13 2 9 1) (λ x. 0) refl) (same (through 14 1 11 1 13 3 9 2) (λ x. 0) refl)

pub mixed_back : (a b c d : ℕ) → a < 256 → b < 256 → c < 256 → d < 256 → twice 2 3 1 1 14 11 13 9 a b c d ≡ a
unfolding product
mixed_back =
    undone 2 3 1 1 14 11 13 9 (same (through 2 14 3 9 1 13 1 11) (λ x. x) refl) (same (through 2 11 3 14 1 9 1 13) (λ x. 0) refl)
    (same (through 2 13 3 11 1 14 1 9) (λ x. 0) refl) (same (through 2 9 3 13 1 11 1 14) (λ x. 0) refl)
