pub mod Notes
pub mod Sifted
pub mod Building
pub mod Targets
pub mod Values
pub mod Flaws
pub mod Reading
pub mod Law
