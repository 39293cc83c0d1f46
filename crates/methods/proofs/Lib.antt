-- Lemmas on feedings.
pub mod Feedings
