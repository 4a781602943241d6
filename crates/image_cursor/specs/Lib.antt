pub mod Checking
pub mod Heads
pub mod Laws
pub mod Members
pub mod Operands
pub mod Scopes
pub mod Tails
pub mod Walking
