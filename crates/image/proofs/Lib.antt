pub mod Bytes
pub mod Heads
pub mod Laws
pub mod Operands
pub mod Opts
pub mod Rows
pub mod Runs
pub mod Sized
