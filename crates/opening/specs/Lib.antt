-- The definitions of opening and setting up.
pub mod Refusal
pub mod Fields
pub mod File
pub mod Checks
pub mod Inputs
pub mod Making
pub mod Open
pub mod SetUp
pub mod Laws
pub mod RefusalText
