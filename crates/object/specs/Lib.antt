pub mod Indexes
pub mod Roots
pub mod Words
