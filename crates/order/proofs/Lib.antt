pub mod Bytewise
pub mod Merges
pub mod Runs
pub mod Stable
