-- Laws on items.
pub mod Order
pub mod Words
