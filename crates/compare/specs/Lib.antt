-- What the two engines say of a token string, how they are compared, and the lines on it.
pub mod Engines
pub mod Compares
pub mod Text
pub mod Writes
