-- Laws of the prediction table and the follow table.
pub mod Cells
pub mod Warshall
pub mod Reaching
pub mod Across
pub mod Following
