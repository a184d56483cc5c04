-- What the buyer must believe of the node store: the units of a node at a position, the answers by number, and what write, read and
-- walk do.
pub mod Choice
pub mod Rows
pub mod Answers
pub mod Writing
pub mod Reading
pub mod Walking
