-- The words of a parse, and what well formed means.
pub mod Words
pub mod Heads
pub mod WellFormed
pub mod inner
