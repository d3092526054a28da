-- What a reader must believe: Serving, the order in which channels are served; Channels, the call; Answers, the struct that it answers by;
-- Claims, what is claimed of it. Under inner the same in the shape of the code's loops; proofs/ shows that it is.
pub mod Serving
pub mod Channels
pub mod Answers
pub mod Claims
pub mod inner
