-- Document 01's numbers to try.
pub mod Trials
pub mod Numbers
