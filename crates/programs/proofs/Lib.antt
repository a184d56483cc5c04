-- Laws on headers, on texts, and on tokens in bytes.
pub mod Headers
pub mod Texts
pub mod Decoding
