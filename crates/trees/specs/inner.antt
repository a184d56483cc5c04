-- What only inner contracts cite: what is read of a store, the table of numbers of trees, the table as rows of numbers, and the walkers.
pub mod Heads
pub mod Weights
pub mod Tables
pub mod Walks
