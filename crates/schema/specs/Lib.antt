pub mod Parts
pub mod Rules
pub mod Entries
pub mod RuleEntries
pub mod Laws
