-- The paper's number, and the values, of each case of an answer. What a call answers and leaves is said in the crate demands.
pub mod Answers
pub mod inner
