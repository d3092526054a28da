-- Answers has the reply of the public calls, Codes the code that lent tables say; Reading is what the functions below them answer, in the
-- shape of the code.
pub mod Answers
pub mod Codes
pub mod inner
