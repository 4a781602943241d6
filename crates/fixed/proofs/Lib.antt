pub mod Lists
pub mod Texts
