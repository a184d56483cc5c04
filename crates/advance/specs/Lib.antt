-- Steps 4 to 6: the new items become a set.
pub mod NewItems
pub mod Advance
pub mod inner
