pub mod Packed
pub mod Demand
