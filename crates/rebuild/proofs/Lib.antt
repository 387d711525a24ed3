mod Held
mod Noted
pub mod OnVolume
pub mod Passing
pub mod Rebuilt
mod RootSectors
mod Sectors
mod Stepping
mod Taken
pub mod Twice
