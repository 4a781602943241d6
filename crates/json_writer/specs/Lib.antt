pub mod Back
pub mod Compact
