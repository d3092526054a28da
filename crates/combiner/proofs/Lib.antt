-- Laws of the call, and either order bound to its own contract (TwoCalls); a function's own proof stands in a folder of its name.
pub mod Combined
pub mod TwoCalls
