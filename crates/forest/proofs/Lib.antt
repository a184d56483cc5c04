-- The forest of one position is exact, and has every tree once, in order; which the k-th is.
pub mod Lists
pub mod Rules
pub mod Trees
pub mod Told
pub mod Forests
pub mod Exactly
pub mod Every
pub mod Order
pub mod Choosing
pub mod Examples
-- Queue and forest are tied: from a pass, turn by turn, to the premises of the above.
pub mod Counted
pub mod Tied
pub mod Entries
pub mod Sums
pub mod Passing
pub mod Loops
pub mod Calls
-- Nodes are only added: one position whole, and from position to position.
pub mod Rooted
pub mod Planted
pub mod Whole
pub mod Onwards
pub mod Units
pub mod Smallest
