-- Chaining as a crypt method: its meaning, its states, and how much is out when; then the lemmas of its laws.
pub mod Keyed
pub mod ChainedMethod
pub mod Last
pub mod Steps
pub mod State
pub mod Lengths
pub mod Laws
pub mod Advancing
pub mod TakingIn
