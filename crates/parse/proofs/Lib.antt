-- Laws of the words of a parse, and of the functions that tell whether they are well formed.
pub mod Capacities
pub mod Placing
pub mod Passing
pub mod Searching
pub mod Clearing
pub mod Padded
pub mod Fitting
pub mod Below
pub mod Whole
pub mod Heads
pub mod Marking
pub mod Appended
pub mod Examples
