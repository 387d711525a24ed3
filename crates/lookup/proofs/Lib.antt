pub mod Filling
pub mod Past
pub mod ReadingOn
pub mod StagedWords
