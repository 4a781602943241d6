pub mod Syntax
pub mod Mention
pub mod Grammar
