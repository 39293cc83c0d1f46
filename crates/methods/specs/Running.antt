-- What a restoring under way means, and what feeding it a piece does.
use Rattle.std.specs.Prelude.{◌≡◌, ℕ, ◌+◌, ◌^◌, ◌≤◌, Bool, true, cond, [], ◌++◌, length, take, drop, Some, None, Option, nat_lt}
use Rattle.byte_strings.specs.Bytes.{Bytes}

-- a restoring under way, by what it still has to do
pub record Residual : Type 0 where
  -- from the bytes still to come to the bytes still to be handed out, or nothing where they do not restore
  pub ahead : Bytes → Option Bytes
  -- from the length of a piece to the length that feeding it hands out
  pub hands : ℕ → ℕ
  -- a space that closing now fits in
  pub closing : ℕ
  -- from the length of a piece to the closing space that is told once it is fed
  pub later : ℕ → ℕ
  -- whether it promises that these lengths go by the number of bytes taken in, however they fall into pieces
  pub steady : Bool

-- w in front of what is there; nothing stays nothing
abbrev pub after : Bytes → Option Bytes → Option Bytes
after w None = None
after w (Some v) = Some (w ++ v)

-- t tells, of m bytes more, what q tells of n and m bytes more
pub record Steady (q : Residual) (n : ℕ) (t : Residual) : Type 0 where
  pub hands : (m : ℕ) → q.hands (n + m) ≡ q.hands n + t.hands m
  pub later : (m : ℕ) → q.later (n + m) ≡ t.later m
  pub still : t.steady ≡ true

-- Feeding p hands out w, and leads from q to t.
pub record Feeds (q : Residual) (p w : Bytes) (t : Residual) : Type 0 where
  -- with every rest r, what was ahead of p and r is w and then what is ahead of r
  pub split : (r : Bytes) → q.ahead (p ++ r) ≡ after w (t.ahead r)
  -- the length of w was told, and so was the closing space
  pub exact : length w ≡ q.hands (length p)
  pub space : t.closing ≡ q.later (length p)
  pub steady : q.steady ≡ true → Steady q (length p) t

-- What a feeding of p answers, n, and leaves in the buffer: what it hands out stands at the front, and the rest stays.
pub record Fed (q : Residual) (p old : Bytes) (t : Residual) (n : ℕ) (new : Bytes) : Type 0 where
  pub feeds : Feeds q p (take n new) t
  pub count : n ≡ q.hands (length p)
  pub behind : drop n new ≡ drop n old

-- the space that restoring n bytes at once asks for: what feeding them hands out, and the closing space after it
abbrev pub space : Residual → ℕ → ℕ
space q n = q.hands n + q.later n

-- what comes back fits the space that is told
pub record Fits (q : Residual) : Type 0 where
  pub closing : (w : Bytes) → q.ahead [] ≡ Some w → length w ≤ q.closing
  pub whole : (x w : Bytes) → q.ahead x ≡ Some w → length w ≤ space q (length x)

-- a length as a `usize`; none above the largest
abbrev pub told : ℕ → Option ℕ
told n = cond (nat_lt n (2 ^ 64)) (Some n) None
