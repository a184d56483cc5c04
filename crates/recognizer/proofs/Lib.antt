-- Laws that the calls' proofs cite, and how an answer comes to its number and values.
pub mod Answered
pub mod Looking
pub mod Remaining
pub mod OnePosition
pub mod Came
pub mod Carving
pub mod Turning
pub mod Given
pub mod Cutting
pub mod Readying
pub mod Beginning
