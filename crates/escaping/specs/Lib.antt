pub mod Answers
pub mod Escape
pub mod Laws
pub mod Left
