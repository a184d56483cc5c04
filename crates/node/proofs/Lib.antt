-- Laws of the node store: tests and choices, units in a store, what the reader's table spells, the walk; then the laws that a buyer
-- reads, in RoundTrip, Before, Exact, Longer and InOrder, and the numbers to try, in Numbers.
pub mod Choices
pub mod Fit
pub mod Fillers
pub mod Runs
pub mod Stands
pub mod Spells
pub mod Due
pub mod Lowest
pub mod Almost
pub mod Mends
pub mod Exact
pub mod Seen
pub mod Walks
pub mod Puts
pub mod RoundTrip
pub mod Before
pub mod Longer
pub mod InOrder
pub mod Agree
pub mod Numbers
