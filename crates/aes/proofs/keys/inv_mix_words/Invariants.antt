-- The words before the index have gone through, the others are as they were.
use Rattle.std.proofs.Common.{◌≡◌, ℕ, ◌<◌, ◌≤◌, [], get_or}
use Rattle.aes.specs.State.{inv_mix_column}
use Rattle.aes.proofs.keys.inv_mix_words.Given as goal

abbrev pub invariant-loop-word : goal.invariant-loop-word
invariant-loop-word l =
    record {
      mixed : (k : ℕ) → k < l.word-index → get_or l.words k [] ≡ inv_mix_column (get_or l.initial.words k []);
      left : (k : ℕ) → l.word-index ≤ k → get_or l.words k [] ≡ get_or l.initial.words k [];
    }
