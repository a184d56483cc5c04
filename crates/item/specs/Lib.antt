-- What the buyer must believe of items.
pub mod Item
