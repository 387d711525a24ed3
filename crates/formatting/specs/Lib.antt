pub mod EmptyVolume
pub mod Formatting
