-- What the text of a line stands for.
pub mod Text
pub mod Key
pub mod Job
pub mod Cases
pub mod Series
