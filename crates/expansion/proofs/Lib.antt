-- Laws by topic; a function's own proof stands in a folder of its name.
pub mod Cases
pub mod Transposing
pub mod Expanding
pub mod Forming
pub mod ExpandCall
pub mod Values
