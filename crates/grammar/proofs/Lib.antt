-- Laws of grammars.
pub mod Decoding
pub mod Asked
pub mod Marks
pub mod Rounds
pub mod Productivity
pub mod Reachability
pub mod Judging
pub mod Verdicts
pub mod Facts
pub mod Reached
pub mod Following
pub mod Examples
pub mod Linking
