mod Entries
pub mod Made
mod Placing
pub mod RootLaws
mod WordLaws
