-- MD5, and what a digest under way means.
pub mod Md5
pub mod Stream
