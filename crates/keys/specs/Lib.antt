-- The keys of the standard security handler, by ISO 32000-1, section 7.6.
pub mod Numbers
pub mod Key
pub mod Inputs
pub mod Password
pub mod File
pub mod User
pub mod Object
