-- What the driver's functions on slices promise.
pub mod Text
pub mod Parts
pub mod Writes
