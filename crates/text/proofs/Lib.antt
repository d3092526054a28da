-- Laws by topic, and the theorem of the calls (Session) bound to feed's and close's own contracts (Bound); a function's own proof stands in a
-- folder of its name.
pub mod Digits
pub mod Printing
pub mod Laws
pub mod Parts
pub mod Session
pub mod Bound
