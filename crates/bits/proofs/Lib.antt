-- Laws of the loops over the words of a row.
pub mod Rewriting
