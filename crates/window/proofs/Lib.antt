-- Follows: a load and I commands 2 are one decode call; Answers: what every list of writes from idle shows. Both speak of the definition `write`,
-- and the contract of the call is that equation, so they hold of lists of calls. Reading and Taking: for the proofs of the functions.
pub mod Follows
pub mod Answers
pub mod Examples
pub mod Reading
pub mod Taking
