-- Laws of division; a function's own proof stands in a folder of its name.
pub mod Quotients
