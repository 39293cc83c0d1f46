-- Loops that make one block after the other.
use Rattle.std.proofs.Common.{◌≡◌, ℕ, zero, suc, ◌+◌, ◌-◌, ◌*◌, ◌<◌, ◌≤◌, [], ◌++◌, length, take, drop, sym, refl, ap, ◌∙◌, ap₂, arith}
use Rattle.std.proofs.lemmas.List.{append_assoc, append-nil, length-append, length-drop, length-take-le, take-append-drop, drop-drop}
use Rattle.byte_strings.specs.Bytes.{Bytes}
use Rattle.cbc.specs.Blocks.{xor_blocks}
use Rattle.cbc.specs.Chaining.{chained, unchained}
use Rattle.cbc.proofs.Parts.{take_seam, drop_seam, drops}

-- from a number of blocks, the block stored before them and the bytes, to what is made of them
abbrev pub Walk : Type 0
Walk = ℕ → Bytes → Bytes → Bytes

-- after n of m blocks: what has been written and what is left give the whole
pub record Walking (go : Walk) (m : ℕ) (iv x out₀ : Bytes) (n : ℕ) (before out : Bytes) : Type 0 where
  pub whole : take (n * 16) out ++ go (m - n) before (drop (n * 16) x) ≡ go m iv x
  pub rest : drop (n * 16) out ≡ drop (n * 16) out₀
  pub long : length out ≡ length out₀

module _ (go : Walk) (m : ℕ) (iv x out₀ : Bytes) where
  pub walking_more : (n : ℕ) (before before' out made out' : Bytes) → (n + 1) * 16 ≤ length out₀ → length made ≡ 16
      → go (m - n) before (drop (n * 16) x) ≡ made ++ go (m - (n + 1)) before' (drop 16 (drop (n * 16) x)) → out' ≡ take (n * 16) out ++ (made ++ drop (n * 16 + 16) out)
      → Walking go m iv x out₀ n before out → Walking go m iv x out₀ (n + 1) before' out'
  walking_more n before before' out made out' fits lp next eo inv =
      let a : Bytes = take (n * 16) out in
      let la : length a ≡ n * 16 = length-take-le (n * 16) out (omega (arith, inv.long)) in
      let lap : length (a ++ made) ≡ (n + 1) * 16 = length-append a made ∙ omega (arith, la, lp) in
      let z : Bytes = drop (n * 16 + 16) out in
      let eo2 : out' ≡ (a ++ made) ++ z = eo ∙ sym (append_assoc a made z) in
      let front : take ((n + 1) * 16) out' ≡ a ++ made = ap (take ((n + 1) * 16)) eo2 ∙ take_seam ((n + 1) * 16) (a ++ made) z lap in
      let back : drop ((n + 1) * 16) out' ≡ z = ap (drop ((n + 1) * 16)) eo2 ∙ drop_seam ((n + 1) * 16) (a ++ made) z lap in
      let s : Bytes = drop (n * 16) x in
      let step : drop ((n + 1) * 16) x ≡ drop 16 s = drops n x in
      let rests : z ≡ drop ((n + 1) * 16) out₀ = sym (drop-drop 16 (n * 16) out) ∙ ap (drop 16) inv.rest ∙ sym (drops n out₀) in
      record {
        whole =
            ap₂ (λ (u v : Bytes). u ++ go (m - (n + 1)) before' v) front step
            ∙ append_assoc a made (go (m - (n + 1)) before' (drop 16 s))
            ∙ ap (λ (u : Bytes). a ++ u) (sym next)
            ∙ inv.whole;
        rest = back ∙ rests;
        long = ap length eo2 ∙ length-append (a ++ made) z ∙ omega (arith, lap, length-drop (n * 16 + 16) out, inv.long);
      }

  pub walking_all : (n : ℕ) (before out : Bytes) → n ≡ m → go 0 before (drop (n * 16) x) ≡ [] → Walking go m iv x out₀ n before out → out ≡ go m iv x ++ drop (m * 16) out₀
  walking_all n before out e none inv =
      let z : m - n ≡ 0 = omega arith in
      let w : take (n * 16) out ≡ go m iv x =
      sym (append-nil (take (n * 16) out)) ∙ ap (λ (u : Bytes). take (n * 16) out ++ u) (sym none) ∙ sym (ap (λ (k : ℕ). take (n * 16) out ++ go k before (drop (n * 16) x)) z) ∙ inv.whole in
      sym (take-append-drop (n * 16) out) ∙ ap₂ ◌++◌ w (inv.rest ∙ ap (λ (k : ℕ). drop (k * 16) out₀) e)

-- one block more
pub unchained-next : (g : Bytes → Bytes) (m n : ℕ) (before y block made : Bytes) → n < m → block ≡ take 16 y → made ≡ xor_blocks (g block) before
    → unchained g (m - n) before y ≡ made ++ unchained g (m - (n + 1)) block (drop 16 y)
unfolding unchained
unchained-next g m n before y block made h block_is made-is =
    let e : m - n ≡ suc (m - (n + 1)) = omega arith in
    ap (λ (k : ℕ). unchained g k before y) e
    ∙ sym (ap₂ (λ (u v : Bytes). u ++ unchained g (m - (n + 1)) v (drop 16 y)) (made-is ∙ ap (λ (u : Bytes). xor_blocks (g u) before) block_is) block_is)

pub chained-next : (f : Bytes → Bytes) (m n : ℕ) (before x block made : Bytes) → n < m → block ≡ take 16 x → made ≡ f (xor_blocks block before)
    → chained f (m - n) before x ≡ made ++ chained f (m - (n + 1)) made (drop 16 x)
unfolding chained
chained-next f m n before x block made h block_is made-is =
    let e : m - n ≡ suc (m - (n + 1)) = omega arith in
    ap (λ (k : ℕ). chained f k before x) e
    ∙ sym (ap (λ (u : Bytes). u ++ chained f (m - (n + 1)) u (drop 16 x)) (made-is ∙ ap (λ (u : Bytes). f (xor_blocks u before)) block_is))

pub chained_none : (f : Bytes → Bytes) (before x : Bytes) → chained f 0 before x ≡ []
unfolding chained
chained_none f before x = refl

pub length_xor : (a b : Bytes) → length (xor_blocks a b) ≡ 16
unfolding xor_blocks
length_xor a b = refl

pub unchained-length : (g : Bytes → Bytes) (n : ℕ) (before y : Bytes) → length (unchained g n before y) ≡ n * 16
unfolding unchained
unchained-length g zero before y = refl
unchained-length g (suc n) before y =
    length-append (xor_blocks (g (take 16 y)) before) (unchained g n (take 16 y) (drop 16 y)) ∙ omega (arith, length_xor (g (take 16 y)) before, unchained-length g n (take 16 y) (drop 16 y))
