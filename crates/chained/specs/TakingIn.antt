-- Taking a piece in: what is copied and written on the way, and the turns of the loop.
use Rattle.std.specs.Prelude.{◌≡◌, ℕ, ◌+◌, ◌-◌, ◌*◌, ◌/◌, ◌<◌, ◌≤◌, min, [], ◌++◌, length, take, drop, Some, None, Option, refl}
use Rattle.std.proofs.Common.{sym, ap, ap₂, ◌∙◌, add-zero, arith}
use borrow.Rule.Slice.PartMut.{put_mid}
use Rattle.std.proofs.lemmas.Slice.{take-put_mid}
use Rattle.std.proofs.lemmas.List.{append_assoc, append-nil, length-append, length-drop, length-take, drop_all, length-take-le, take-append-drop, drop-drop, take_at, drop_at, take_all}
use Rattle.byte_strings.specs.Bytes.{Bytes}
use Rattle.aes.specs.BlockCipher.{Permutation}
use Rattle.methods.specs.Running.{Residual, Steady, Fed, after}
use Rattle.chained.specs.declared.last.Last.{Last}
use Rattle.chained.specs.Last.{width, complete, advanced, released}
use Rattle.chained.specs.Steps.{remaining, behind, listed}
use Rattle.chained.specs.Advancing.{complete_most, Stepping, stepping}

-- the bytes of a block filled up, short of its end or to it
pub filled_up : (part ys piece : Bytes) (f n : ℕ) → f < 16 → length part ≡ 16 → n ≡ min (16 - f) (length piece) → ys ≡ take (n - 0) piece → take (f + n) (put_mid f (f + n - f) part ys) ≡ take f part ++ take n piece
filled_up part ys piece f n few sixteen n-is ys-is =
    let same : ys ≡ take n piece = ys-is ∙ ap (λ (k : ℕ). take k piece) (omega arith) in
    let long : length ys ≡ n = ap length same ∙ length-take-le n piece (omega arith) in
    take-put_mid f (f + n - f) part ys (f + n) (omega arith) (omega arith) ∙ ap (λ (u : Bytes). take f part ++ u) same

pub filled-whole : (part ys piece : Bytes) (f n : ℕ) → f < 16 → length part ≡ 16 → n ≡ min (16 - f) (length piece) → ys ≡ take (n - 0) piece → 16 ≤ f + n → put_mid f (f + n - f) part ys ≡ take f part ++ take n piece
filled-whole part ys piece f n few sixteen n-is ys-is most =
    let same : ys ≡ take n piece = ys-is ∙ ap (λ (k : ℕ). take k piece) (omega arith) in
    let none : drop (f + n - f) (drop f part) ≡ [] = drop_all (f + n - f) (drop f part) (omega (arith, length-drop f part)) in
    ap₂ (λ (u v : Bytes). take f part ++ (u ++ v)) same none ∙ ap (λ (u : Bytes). take f part ++ u) (append-nil (take n piece))

-- what was set free is written: nothing, or a block
pub put_nothing : (o : Option Bytes) (at : ℕ) (out : Bytes) → o ≡ None → (at ≡ at + length (listed o)) × (out ≡ take at out ++ (listed o ++ drop (at + length (listed o)) out))
put_nothing None at out e = (omega arith, sym (take-append-drop at out) ∙ ap (λ (k : ℕ). take at out ++ drop k out) (omega arith))
put_nothing (Some b) at out e = let z : ◌≡◌ {A = ℕ} 0 1 = cc in absurd (omega arith)

pub put_block : (o : Option Bytes) (b : Bytes) (at : ℕ) (out out' : Bytes) → o ≡ Some b → length b ≡ 16 → out' ≡ take at out ++ (b ++ drop (at + 16) out)
    → (at + 16 ≡ at + length (listed o)) × (out' ≡ take at out ++ (listed o ++ drop (at + length (listed o)) out))
put_block o b at out out' o_is sixteen is =
    let long : length (listed o) ≡ 16 = ap (λ (u : Option Bytes). length (listed u)) o_is ∙ sixteen in
    let same : b ≡ listed o = ap listed (sym o_is) in
    (ap (λ (n : ℕ). at + n) (sym long), is ∙ ap₂ (λ (u : Bytes) (n : ℕ). take at out ++ (u ++ drop (at + n) out)) same (sym long))

pub part_few : (filled : ℕ) (part : Bytes) → filled < 16 → length (take filled part) < 16
part_few filled part few = omega (arith, length-take filled part)

after-after : (w y : Bytes) (o : Option Bytes) → after w (after y o) ≡ after (w ++ y) o
after-after w y None = refl
after-after w y (Some v) = ap Some (sym (append_assoc w y v))

-- after `at` bytes of the piece: what was written and what is left give the whole
pub record FedUpTo (g : Permutation) (q : Residual) (piece out₀ : Bytes) (at count : ℕ) (last : Last) (part out : Bytes) : Type 0 where
  pub split : (r : Bytes) → q.ahead (piece ++ r) ≡ after (take count out) (remaining g last (part ++ (drop at piece ++ r)))
  pub hands : (m : ℕ) → q.hands (length piece + m) ≡ count + (complete last + (length part + (length piece - at + m)) / 16 - 2) * 16
  pub later : (m : ℕ) → q.later (length piece + m) ≡ min 1 (complete last + (length part + (length piece - at + m)) / 16 - 1) * 16
  pub rest : drop count out ≡ drop count out₀
  pub long : length out ≡ length out₀
  pub within : at ≤ length piece

-- One turn: n bytes more are taken from d, the rest of the piece, and w is handed out.
module _ (g : Permutation) (q : Residual) (piece out₀ : Bytes) (at count f : ℕ) (last : Last) (part out : Bytes)
    (inv : FedUpTo g q piece out₀ at count last (take f part) out) (room : q.hands (length piece) ≤ length out₀)
    (wide : width last ≡ 16) (long : length part ≡ 16) (few : f < 16)
    (d : Bytes) (d_is : d ≡ drop at piece) (n f' : ℕ) (l : Last) (part' w : Bytes) (n-is : n ≡ min (16 - f) (length d))
    (less : f + n < 16 → (l ≡ last) × (w ≡ []) × (take f' part' ≡ take f part ++ take n d))
    (full : 16 ≤ f + n → (l ≡ advanced g last (take f part ++ take n d)) × (w ≡ released last) × (f' ≡ 0)) where
  abbrev x : Bytes
  x = take f part ++ take n d

  long_f : length (take f part) ≡ f
  long_f = length-take-le f part (omega arith)

  long_d : length d ≡ length piece - at
  long_d = ap length d_is ∙ length-drop at piece

  long_x : length x ≡ f + n
  long_x = length-append (take f part) (take n d) ∙ ap₂ ◌+◌ long_f (length-take-le n d (omega arith))

  step : Stepping g last x l (take f' part') w
  step =
      let lx = long_x in
      stepping g last x l (take f' part') w wide (omega (arith, lx)) (λ h. less (omega (arith, lx))) (λ h. let a = full (omega (arith, lx)) in (a.0, a.1, ap (λ (k : ℕ). take k part') a.2))

  same_left : (m : ℕ) → length (take f part) + (length piece - at + m) ≡ length x + (length piece - (at + n) + m)
  same_left m = let lf = long_f in let lx = long_x in let ld = long_d in omega (arith, lf, lx, ld, inv.within)

  more_hands : (m : ℕ) → q.hands (length piece + m) ≡ count + length w + (complete l + (length (take f' part') + (length piece - (at + n) + m)) / 16 - 2) * 16
  more_hands m =
      let h = step.hands (length piece - (at + n) + m) in
      inv.hands m ∙ ap (λ (k : ℕ). count + (complete last + k / 16 - 2) * 16) (same_left m) ∙ omega (arith, h)

  pub turn_room : count + length w ≤ length out
  turn_room =
      let h = more_hands 0 in
      let all : q.hands (length piece) ≡ q.hands (length piece + 0) = ap q.hands (sym (add-zero (length piece))) in
      omega (arith, h, all, inv.long)

  parts : (r : Bytes) → take f part ++ (drop at piece ++ r) ≡ x ++ (drop (at + n) piece ++ r)
  parts r =
      let e : Bytes = drop (at + n) piece in
      let apart : drop at piece ≡ take n d ++ e = sym d_is ∙ sym (take-append-drop n d) ∙ ap (λ (u : Bytes). take n d ++ drop n u) d_is ∙ ap (λ (u : Bytes). take n d ++ u) (drop-drop n at piece) in
      ap (λ (u : Bytes). take f part ++ (u ++ r)) apart ∙ ap (λ (u : Bytes). take f part ++ u) (append_assoc (take n d) e r) ∙ sym (append_assoc (take f part) (take n d) (e ++ r))

  pub turn_again : (k : ℕ) (out' : Bytes) → k ≡ count + length w → out' ≡ take count out ++ (w ++ drop (count + length w) out) → FedUpTo g q piece out₀ (at + n) k l (take f' part') out'
  turn_again k out' k-is is =
      let ld = long_d in
      let fits = turn_room in
      let a : Bytes = take count out in
      let law : length (a ++ w) ≡ k = length-append a w ∙ ap (λ (j : ℕ). j + length w) (length-take-le count out (omega arith)) ∙ sym k-is in
      let z : Bytes = drop (count + length w) out in
      let is2 : out' ≡ (a ++ w) ++ z = is ∙ sym (append_assoc a w z) in
      let front : take k out' ≡ a ++ w = ap (take k) is2 ∙ take_at (a ++ w) z k law in
      record {
        split = λ r.
            inv.split r ∙ ap (λ (u : Bytes). after a (remaining g last u)) (parts r) ∙ ap (after a) (step.split (drop (at + n) piece ++ r))
            ∙ after-after a w (remaining g l (take f' part' ++ (drop (at + n) piece ++ r)))
            ∙ ap (λ (u : Bytes). after u (remaining g l (take f' part' ++ (drop (at + n) piece ++ r)))) (sym front);
        hands = λ m. more_hands m ∙ ap (λ (j : ℕ). j + (complete l + (length (take f' part') + (length piece - (at + n) + m)) / 16 - 2) * 16) (sym k-is);
        later = λ m. inv.later m ∙ ap (λ (j : ℕ). min 1 (complete last + j / 16 - 1) * 16) (same_left m) ∙ step.later (length piece - (at + n) + m);
        rest =
            ap (drop k) is2 ∙ drop_at (a ++ w) z k law ∙ sym (drop-drop (length w) count out) ∙ ap (drop (length w)) inv.rest ∙ drop-drop (length w) count out₀ ∙ ap (λ (j : ℕ). drop j out₀) (sym k-is);
        long = ap length is2 ∙ length-append (a ++ w) z ∙ omega (arith, law, k-is, length-drop (count + length w) out, inv.long);
        within = omega (arith, ld, inv.within);
      }

-- all of the piece is in
module _ (g : Permutation) (q : Residual) (piece out₀ : Bytes) (at count : ℕ) (last : Last) (part out : Bytes)
    (inv : FedUpTo g q piece out₀ at count last part out) (all : length piece ≤ at) (few : length part < 16) where
  all_fed : length piece + 0 ≡ length piece
  all_fed = add-zero (length piece)

  fed_count : count ≡ q.hands (length piece)
  fed_count = let c = complete_most last in omega (arith, c, inv.hands 0, ap q.hands all_fed)

  fed_steady : Steady q (length piece) (behind g last part)
  fed_steady =
      let n = fed_count in
      let none : length piece - at ≡ 0 = omega arith in
      record {
        hands = λ m. inv.hands m ∙ omega (arith, n, none);
        later = λ m. inv.later m ∙ ap (λ (k : ℕ). min 1 (complete last + (length part + (k + m)) / 16 - 1) * 16) none ∙ omega arith;
        still = refl;
      }

  pub piece_fed : q.hands (length piece) ≤ length out₀ → Fed q piece out₀ (behind g last part) count out
  piece_fed room =
      let c = complete_most last in
      let n = fed_count in
      let none : drop at piece ≡ [] = drop_all at piece all in
      record {
        feeds = record {
          split = λ r. inv.split r ∙ ap (λ (u : Bytes). after (take count out) (remaining g last (part ++ (u ++ r)))) none;
          exact = length-take-le count out (omega (arith, n, room, inv.long)) ∙ n;
          space = sym (ap q.later (sym all_fed) ∙ inv.later 0 ∙ omega (arith, c));
          steady = λ _. fed_steady;
        };
        count = n;
        behind = inv.rest;
      }

-- what is left of the piece, n bytes on
pub left-further : (piece left : Bytes) (n : ℕ) → left ≡ drop (length piece - length left) piece → n ≤ length left → length left ≤ length piece
    → let rest = take (length left - n) (drop n left) in (rest ≡ drop (length piece - length rest) piece) × (length piece - length left + n ≡ length piece - length rest)
left-further piece left n is few within =
    let all : take (length left - n) (drop n left) ≡ drop n left = take_all (length left - n) (drop n left) (omega (arith, length-drop n left)) in
    let long : length (take (length left - n) (drop n left)) ≡ length left - n = ap length all ∙ length-drop n left in
    let at : length piece - length left + n ≡ length piece - length (take (length left - n) (drop n left)) = omega (arith, long) in
    (all ∙ ap (drop n) is ∙ drop-drop n (length piece - length left) piece ∙ ap (λ (k : ℕ). drop k piece) at, at)
