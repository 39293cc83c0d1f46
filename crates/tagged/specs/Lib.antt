-- What the tags stand for; then that their methods are lawful.
pub mod State
pub mod Tag
pub mod Lawful
