-- Laws by topic; a function's own proof stands in a folder of its name.
pub mod Laws
pub mod Grouping
pub mod Rows
pub mod Swept
pub mod Pairing
pub mod Sending
pub mod Worked
