-- Laws by topic; a function's own proof stands in a folder of its name.
pub mod Arithmetic
pub mod Blocks
pub mod Tables
pub mod Filling
pub mod Weighed
pub mod ProductCall
pub mod RowsCall
pub mod Values
