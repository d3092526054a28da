-- What a reader must believe: Answers, the reply of the calls. inner: what private functions find.
pub mod Answers
pub mod inner
