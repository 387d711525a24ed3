pub mod Committing
pub mod Creating
pub mod Finishing
pub mod Plans
pub mod Staging
pub mod Worked
