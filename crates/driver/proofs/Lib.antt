-- Laws on texts, on runs of parts, and on what is written.
pub mod Texts
pub mod Running
pub mod Reading
pub mod Writing
pub mod Sentences
