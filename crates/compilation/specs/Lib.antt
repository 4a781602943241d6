pub mod Fates
pub mod Compiled
pub mod Loading
pub mod Widened
