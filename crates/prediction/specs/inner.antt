-- What only inner contracts cite: how the table comes about.
pub mod Tables
