-- Laws on what the engines say, on the comparison, on its lines, and on what is written.
pub mod Saying
pub mod Comparing
pub mod Lining
pub mod Agreeing
pub mod Writing
