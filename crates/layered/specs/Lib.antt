-- What a reader must believe: Answers, the replies of the public calls. Under inner what the loops leave and ask.
pub mod Answers
pub mod inner
