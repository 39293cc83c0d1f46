-- The definitions that every crate shares.
pub mod Bytes
