-- When the two engines are compared.
pub mod Compared
