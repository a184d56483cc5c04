-- What only inner contracts cite: lists put into a place.
pub mod Puts
pub mod Lines
