-- The law that the trees need, of a step that was not refused.
pub mod Unrefused
pub mod Pairs
pub mod Pops
pub mod Planted
pub mod Room
pub mod Finished
pub mod Told
