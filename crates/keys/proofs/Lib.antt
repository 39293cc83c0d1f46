-- The lemmas on keys.
pub mod Pads
pub mod Turns
pub mod KeyLaws
