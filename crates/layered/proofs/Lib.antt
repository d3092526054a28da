-- Laws by topic, and SPEC 10.3 bound to decode's own contract (TwoCalls); a function's own proof stands in a folder of its name.
pub mod Columns
pub mod Loans
pub mod Satisfied
pub mod Updates
pub mod Iterations
pub mod Places
pub mod Runs
pub mod Retests
pub mod Advances
pub mod Decoded
pub mod Steps
pub mod TwoCalls
