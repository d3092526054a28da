-- Laws of reading, and what a header says of its line; a function's own proof stands in a folder of its name.
pub mod Parsing
pub mod Answered
pub mod Says
