-- What the reading half of the compiler answers.
pub mod Answers
pub mod Refusals
