-- What the calls of the reader promise together.
pub mod Calls
pub mod Promises
