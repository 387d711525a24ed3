pub mod Finding
pub mod Reading
pub mod Staging
