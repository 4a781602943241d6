pub mod Lists
pub mod Taking
pub mod Growing
pub mod Building
pub mod Loading
pub mod Groups
