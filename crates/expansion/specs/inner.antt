-- What the loops leave and what the functions that another crate cannot call ask.
pub mod Asks
pub mod Transposed
