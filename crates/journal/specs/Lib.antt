pub mod Carried
pub mod Committing
pub mod Finishing
pub mod Marking
pub mod Passes
pub mod Rows
pub mod Rules
