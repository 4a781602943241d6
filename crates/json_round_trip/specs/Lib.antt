pub mod Readable
pub mod RoundTrip
pub mod Copied
