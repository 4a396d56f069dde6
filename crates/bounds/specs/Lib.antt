-- What code may take for granted of a text's program.
pub mod Bounds
