-- What a reader must believe: Answers, the replies of the call. Under inner what mirrors loops.
pub mod Answers
pub mod inner
