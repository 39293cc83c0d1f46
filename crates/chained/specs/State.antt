-- What a chained restoring under way means.
use Rattle.aes.specs.BlockCipher.{Permutation}
use Rattle.methods.specs.Running.{Residual}
use Rattle.chained.specs.declared.state.ChainedState.{ChainedState}
use Rattle.chained.specs.Steps.{underway}

-- by what its cipher means
abbrev pub meaning : {C : Type 0} → (C → Permutation) → ChainedState C → Residual
meaning maps s = underway (maps s.cipher) s.progress
