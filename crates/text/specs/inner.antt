-- Held is what a state and its buffers stand for; Digits and Lines mirror the code.
pub mod Digits
pub mod Lines
pub mod Held
