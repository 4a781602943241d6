pub mod Faults
pub mod Holds
pub mod Loads
