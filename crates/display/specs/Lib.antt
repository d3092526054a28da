-- What a reader must believe: Answers; Demand and Kept, SPEC 10.2 and the kept entries in the words of a check and an expansion; and Views,
-- the claims about display and expansion. Showing says what the inner functions answer and ask.
pub mod Answers
pub mod Demand
pub mod Kept
pub mod Views
pub mod inner
