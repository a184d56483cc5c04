-- What only inner contracts cite.
pub mod Symbols
pub mod Marks
pub mod Circles
pub mod Lists
pub mod Sides
pub mod Puts
