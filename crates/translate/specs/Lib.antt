-- What the program writes.
pub mod Lines
