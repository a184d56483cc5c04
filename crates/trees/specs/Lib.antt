-- What a reader must believe of count and tree: what stands below a handle, what is wrong with it, and what the calls answer.
pub mod Faults
pub mod Answers
pub mod inner
