-- The middle language: its steps, the generator, and what is promised of both.
pub mod Steps
pub mod Generate
pub mod Correct
pub mod Fits
pub mod Samples
