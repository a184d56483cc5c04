-- What a reader must believe of positions that carry several kinds of token.
pub mod Positions
