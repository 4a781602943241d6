pub mod Base64Cases
pub mod Base64Laws
pub mod Base64Signs
pub mod Base64Steps
