pub mod Putting
pub mod Rows
pub mod Widths
pub mod Lowered
pub mod Measuring
pub mod Bridge
pub mod Emitting
pub mod Whole
