-- The definitions of AES, from FIPS 197; then the lemmas by which the two maps undo each other: those on blocks and sums serve the chaining too.
pub mod BlockCipher
pub mod Field
pub mod Sbox
pub mod State
pub mod Words
pub mod Direction
pub mod Keys
pub mod Cipher
pub mod CipherLaws
pub mod StateLaws
pub mod SboxLaws
pub mod Table
pub mod FieldLaws
