-- The shape of the code's loops, and what they ask of a code, of costs and of stored records.
pub mod Accepted
pub mod InRange
pub mod Blocks
pub mod Tables
pub mod LentEarly
pub mod Faults
