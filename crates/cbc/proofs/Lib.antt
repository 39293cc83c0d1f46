-- The lemmas of the crate.
pub mod Made
pub mod Chunks
pub mod Parts
pub mod PaddingLaws
pub mod Walking
pub mod Decrypting
pub mod RoundTrip
