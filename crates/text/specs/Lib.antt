-- What a reader must believe: Calls, what a session of feed and close is. Under inner what a state and its buffers stand for, and what
-- mirrors the code.
pub mod Calls
pub mod inner
