-- The fields of a line in the shape of the code that reads them, and the code that its tables say.
pub mod Reading
pub mod Coding
