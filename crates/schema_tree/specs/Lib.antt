pub mod Tree
pub mod Nodes
pub mod Steps
pub mod Stands
pub mod Builds
pub mod Loads
