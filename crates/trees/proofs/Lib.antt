-- What the table tells of a store, and that the answers of count and tree are settled.
pub mod Belows
pub mod Means
pub mod Weighing
pub mod Counting
pub mod Agree
pub mod Examples
-- How a walker chooses.
pub mod Chosen
-- What the code reads and stores.
pub mod Heads
pub mod Tabled
-- How the walkers choose by weights, what they lay down, and what tree answers.
pub mod Choices
pub mod Laying
pub mod Answering
-- Nothing is faulty where a forest was planted.
pub mod Planted
