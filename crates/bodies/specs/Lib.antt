-- What parsing code answers.
pub mod Outcome
pub mod Parts
