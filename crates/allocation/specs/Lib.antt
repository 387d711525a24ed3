pub mod Choosing
pub mod ChoosingLaws
