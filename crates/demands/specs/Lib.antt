-- What the buyer must believe of a parse: the steps of a position, what each call answers and leaves, how a parse comes about, and what the
-- answers tell of sentences.
pub mod Positions
pub mod Steps
pub mod Calls
pub mod Histories
pub mod Sentences
pub mod Tokens
