pub mod Values
pub mod Below
pub mod Means
