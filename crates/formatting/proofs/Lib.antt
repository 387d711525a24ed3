pub mod Cylinders
pub mod EmptyVolume
pub mod FirstMaps
pub mod StoredOnce
