-- Laws that several crates cite.
pub mod Bits
pub mod Counts
pub mod Rows
pub mod Filled
pub mod Lists
pub mod Records
pub mod Tests
pub mod Turns
pub mod Decides
pub mod Fills
