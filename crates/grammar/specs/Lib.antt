-- What the buyer must believe of grammars: rules, the sentences that they give, which grammars are accepted, and the file.
pub mod Rules
pub mod Sentences
pub mod Accepted
pub mod File
pub mod Prediction
pub mod Following
pub mod Forms
pub mod Answers
pub mod inner
