pub mod Carrying
pub mod EachAt
pub mod Intending
pub mod Passing
pub mod RootTable
