-- Steps 2 and 3: completing pairs of a set and a symbol.
pub mod Pass
pub mod Lent
pub mod Complete
pub mod Scan
pub mod Sums
pub mod inner
