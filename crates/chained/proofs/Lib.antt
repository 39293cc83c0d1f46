-- Lemmas on how much of a chained restoring is out when.
pub mod ByLength
