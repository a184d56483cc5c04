-- What programs read and write: the header of a grammar, tokens in bytes, lines.
pub mod Header
pub mod Tokens
pub mod Text
