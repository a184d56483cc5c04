-- The two engines agree.
pub mod Agreeing
