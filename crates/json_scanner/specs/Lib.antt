pub mod Grammar
pub mod Bytes
pub mod Machine
pub mod Holds
pub mod Stacks
pub mod Faults
pub mod Theorem
