-- The plain engine: the table of which symbol derives which stretch, and what the call answers.
pub mod Table
pub mod Calls
pub mod Answers
pub mod inner
