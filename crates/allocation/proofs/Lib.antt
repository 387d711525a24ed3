pub mod Chosen
pub mod Firsts
