-- Laws of the translator's parts.
pub mod Reading
pub mod Testing
pub mod Walking
pub mod Growing
pub mod Marked
pub mod Exact
pub mod Reaching
pub mod Circling
pub mod Dropping
pub mod Placing
pub mod Asking
pub mod Words
pub mod Joining
pub mod Putting
pub mod Siding
pub mod Answering
