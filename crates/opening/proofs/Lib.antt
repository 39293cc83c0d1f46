-- Lemmas of this crate.
pub mod Passing
pub mod Fitting
pub mod Accepting
pub mod SettingUp
pub mod Narrowing
