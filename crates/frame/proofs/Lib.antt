-- Laws by topic; a function's own proof stands in a folder of its name.
pub mod Frames
pub mod Resuming
