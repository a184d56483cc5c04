-- What only inner contracts cite: what a pass relies on, and what its search finds.
pub mod Ready
pub mod Search
pub mod Pending
