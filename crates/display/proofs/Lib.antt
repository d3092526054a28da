-- Laws by topic; the claims about a check and an expansion (CheckThenExpand, KeptCalls) and about the two views (Views), and equal displays bound to
-- the call's own contract (TwoCalls). A function's own proof stands in a folder of its name.
pub mod Refusals
pub mod Shown
pub mod CheckThenExpand
pub mod KeptCalls
pub mod Views
pub mod TwoCalls
