-- What only inner contracts cite: what the parts of the check promise, and rules in words.
pub mod Decoded
pub mod Checking
