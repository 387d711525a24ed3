pub mod Deleting
pub mod Following
pub mod NewObjects
pub mod Playing
pub mod Steadiness
pub mod Stepping
