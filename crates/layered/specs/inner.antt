-- What the loops leave and what the functions that another crate cannot call ask, in the shape of the code.
pub mod Buffers
pub mod Columns
pub mod Parity
pub mod Updates
pub mod Iterations
pub mod Places
pub mod Early
pub mod Calls
pub mod Stages
