-- Laws on the queue: those of push and pop, then what they rest on.
pub mod PushLaws
pub mod PopLaws
pub mod Top
pub mod Appended
pub mod WordLaws
pub mod Answers
pub mod Kept
pub mod Words
pub mod Each
pub mod Held
pub mod Entries
pub mod Hole
pub mod Alike
pub mod Sifting
pub mod Sifts
pub mod Move
pub mod Examples
