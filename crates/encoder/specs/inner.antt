-- What the inner functions ask.
pub mod Rooms
