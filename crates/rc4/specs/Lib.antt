-- The definition of RC4.
pub mod Rc4
