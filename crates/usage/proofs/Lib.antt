-- Lemmas of this crate.
pub mod BothSeries
pub mod Interleaved
pub mod Reopened
pub mod Returning
