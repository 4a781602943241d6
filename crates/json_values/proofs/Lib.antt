pub mod Rows
pub mod Entries
pub mod Keeps
pub mod Seeks
