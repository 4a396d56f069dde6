pub mod Back
pub mod Chunks
