mod Decoding
mod Entries
pub mod OldDecoding
