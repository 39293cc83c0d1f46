-- The laws of the cipher.
use Rattle.rc4.proofs.Streams as law
use Rattle.rc4.proofs.Permutation as table
use Rattle.rc4.proofs.laws.Goals as goal

pub returns : goal.returns
returns c = record { joins = law.joins; undoes = law.undoes; holds = table.holds }
