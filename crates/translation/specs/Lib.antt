-- What the parts of the translator promise, over the definitions of `written`.
pub mod Conditions
pub mod Answers
pub mod inner
