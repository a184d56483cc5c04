-- From derivations to the sets of a parse, in the order of the argument: over positions that may carry several kinds, and at the end over tokens.
pub mod Spelling
pub mod Spans
pub mod Predictions
pub mod Wrapper
pub mod Viable
pub mod Sieves
pub mod Charts
pub mod Steps
pub mod Next
pub mod Places
pub mod Token
pub mod Dropping
pub mod Answers
pub mod Plain
pub mod Hints
