-- The loops over a column, and what the inner functions ask.
pub mod Columns
