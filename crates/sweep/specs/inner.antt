-- What the loops do and what the functions that another crate cannot call ask.
pub mod Cells
pub mod Joins
pub mod Groups
