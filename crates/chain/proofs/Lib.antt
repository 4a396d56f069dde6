pub mod Layers
pub mod Promised
