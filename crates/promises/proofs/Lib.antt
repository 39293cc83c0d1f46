-- The proofs of the promises.
pub mod Keys
pub mod Runs
pub mod Answering
pub mod Opening
