-- Written grammars: what they are, what they derive, which are refused, and the grammar file that one is translated to.
pub mod Lists
pub mod Written
pub mod Form
pub mod Refusals
pub mod Split
pub mod Order
pub mod Translation
pub mod Bytes
pub mod Answers
