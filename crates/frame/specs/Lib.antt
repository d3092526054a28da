-- What a reader must believe: Answers, the replies of the calls.
pub mod Answers
