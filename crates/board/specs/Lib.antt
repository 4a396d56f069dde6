-- What the board's code gives: numbers from text, words from bytes, what memory is filled with, options, and a board that starts.
pub mod Numbers
pub mod Bytes
pub mod Filling
pub mod Options
pub mod Starting
