-- What only inner contracts cite: records out of plain words.
pub mod Records
