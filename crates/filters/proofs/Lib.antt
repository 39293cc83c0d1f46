-- Lemmas of this crate.
pub mod Rule
pub mod Names
pub mod Narrower
