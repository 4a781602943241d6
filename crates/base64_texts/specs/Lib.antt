pub mod Base64
pub mod Base64Cases
pub mod Base64Decoder
