pub mod Bytes
pub mod Keyed
pub mod Merging
pub mod Sorted
