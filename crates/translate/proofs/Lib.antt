-- Laws of the program's lines.
pub mod Writing
