-- An expansion without room, and what the loop asks.
pub mod Showing
