-- Laws of the host's words.
pub mod Telling
pub mod Wide
pub mod Placed
pub mod PlainEngine
pub mod Settled
pub mod FromWords
pub mod Translated
pub mod EveryTree
