-- A margin as a loop finds it.
pub mod Margins
