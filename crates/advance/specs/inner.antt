-- What only inner contracts cite: what steps 4 to 6 rely on, and what each function of them gives.
pub mod Order
pub mod Ready
pub mod Advances
