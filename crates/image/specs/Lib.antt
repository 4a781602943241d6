pub mod Commands
pub mod Decode
pub mod Image
pub mod Laws
pub mod Typed
pub mod Writing
