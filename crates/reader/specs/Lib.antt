-- What protecting, restoring and the calls on a run answer.
pub mod Key
pub mod Tag
pub mod Space
pub mod Run
pub mod Object
pub mod MarkText
