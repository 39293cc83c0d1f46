-- The meaning of the toy method; then the lemmas of its laws.
pub mod Framed
pub mod Unframing
