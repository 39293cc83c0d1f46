-- What the uses of the reader come to.
pub mod BothSeries
pub mod Examples
pub mod RoundTrip
pub mod Turns
