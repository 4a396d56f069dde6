-- What is promised of a message.
pub mod Explains
pub mod Nesting
