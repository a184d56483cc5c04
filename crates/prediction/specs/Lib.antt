-- How the prediction table comes about.
pub mod inner
