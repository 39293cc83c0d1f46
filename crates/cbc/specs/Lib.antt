-- The definitions of cipher block chaining with padding.
pub mod Blocks
pub mod Pad
pub mod Chaining
