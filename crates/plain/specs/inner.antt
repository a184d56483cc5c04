-- What only inner contracts cite: how the table is filled.
pub mod Filling
