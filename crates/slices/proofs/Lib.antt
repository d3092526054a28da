-- Laws of copies; a function's own proof stands in a folder of its name.
pub mod Copies
