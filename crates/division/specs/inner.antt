-- The table of inverses and its computed test.
pub mod Table
