-- Laws of the lists that are told.
pub mod Fronts
pub mod Held
pub mod Latest
pub mod Digits
pub mod Putting
pub mod Lines
pub mod Telling
