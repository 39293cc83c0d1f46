-- The lemmas on RC4.
pub mod Tables
pub mod Streams
pub mod Permutation
