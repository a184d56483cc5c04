-- Laws of the table, in the order of the argument.
pub mod Standing
pub mod Derivations
pub mod Marking
pub mod Keeping
pub mod Splitting
pub mod Seeding
pub mod Falling
pub mod Firing
pub mod Lengths
pub mod Telling
pub mod Examples
