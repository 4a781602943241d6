pub mod Listed
pub mod Collide
pub mod Pieces
pub mod Steps
pub mod Walk
pub mod Shared
