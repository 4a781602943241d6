pub mod Compiles
pub mod Passes
pub mod Names
