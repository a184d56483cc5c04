-- Laws of steps 4 to 6.
pub mod Placed
pub mod Ordering
pub mod Placing
pub mod Inserting
pub mod Sorting
pub mod Dropping
pub mod Pruning
pub mod Predicting
pub mod Following
pub mod Advancing
pub mod Moved
pub mod Keeping
pub mod Steps
