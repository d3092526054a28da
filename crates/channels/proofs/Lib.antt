-- Servings, Fairness, Rounds: the order of service. Limit, Alone: a channel and decoding it alone. Parts, Refused, Call: the claims of the call.
-- Patches, Bridge, Loads, Stands, Quiet, Ends, Serves: the rounds of the code are the call.
pub mod Servings
pub mod Fairness
pub mod Rounds
pub mod Limit
pub mod Alone
pub mod Parts
pub mod Refused
pub mod Call
pub mod Patches
pub mod Bridge
pub mod Stands
pub mod Loads
pub mod Quiet
pub mod Ends
pub mod Layouts
pub mod Moves
pub mod Each
pub mod Given
pub mod Serves
pub mod Examples
