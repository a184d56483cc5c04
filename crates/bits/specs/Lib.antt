-- How wide a row is.
pub mod Width
