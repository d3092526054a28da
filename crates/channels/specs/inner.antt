-- The rounds over the lent buffers, and what the functions ask and leave.
pub mod Rounds
pub mod Layouts
pub mod Standing
pub mod Statuses
pub mod Served
