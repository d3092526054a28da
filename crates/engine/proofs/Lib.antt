-- The engine's mathematics: lines, tables of rests, the shifts and groups of the record.
pub mod Products
pub mod BestRests
pub mod Rests
pub mod RestTables
pub mod RestGroups
pub mod Lines
pub mod Record
