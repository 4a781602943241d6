pub mod Returns
pub mod Characters
pub mod Measures
pub mod Derived
pub mod Trips
pub mod Copies
