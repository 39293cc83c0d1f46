-- Lemmas on tables that a loop fills, on words, on the key expansion and on the rounds of the code.
mod CipherSteps
mod KeySteps
mod KeyLaws
mod WordLaws
mod RoundWords
mod Chunks
mod RoundKeys
mod EquivalentSteps
mod EquivalentLaws
pub mod AesLaws
