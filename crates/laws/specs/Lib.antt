-- Definitions that contracts of several crates cite.
pub mod Bits
pub mod Counts
pub mod Records
pub mod Turns
pub mod Decides
pub mod Fills
