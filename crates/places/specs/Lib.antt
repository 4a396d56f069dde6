-- What is said of places in a text.
pub mod Tails
