-- A lemma on the pairs of a line.
mod Pairs
