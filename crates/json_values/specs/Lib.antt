pub mod Zeros
pub mod Value
pub mod Ordered
pub mod Meaning
pub mod Stored
pub mod Texts
pub mod Laws
