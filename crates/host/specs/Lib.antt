-- What stands in a host's words: the state and answers of a parse, and a node as five numbers.
pub mod Answers
pub mod Reports
pub mod PlainEngine
pub mod Nodes
pub mod Translating
pub mod Trees
pub mod inner
