pub mod Accepting
pub mod Adding
pub mod Compilings
pub mod Mapped
pub mod Room
pub mod Searches
