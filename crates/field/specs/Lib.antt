-- What a reader must believe: Answers, the replies of the calls and what they leave. Under inner what the functions ask that another crate
-- cannot call.
pub mod Answers
pub mod inner
