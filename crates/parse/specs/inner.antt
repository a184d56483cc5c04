-- What only inner contracts cite: the parts of well formed that one function each decides.
pub mod Parts
