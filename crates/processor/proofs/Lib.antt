pub mod Fields
pub mod Coded
pub mod WordBits
pub mod Undo
pub mod Rows
pub mod Memory
pub mod Turns
pub mod Samples
