pub mod Listed
pub mod Room
pub mod Texts
