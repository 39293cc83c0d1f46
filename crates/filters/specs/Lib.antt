-- The definitions of crypt filters.
pub mod Tag
pub mod Table
pub mod Series
pub mod Lookup
pub mod Laws
pub mod TagText
