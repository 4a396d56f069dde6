-- What the code that reads lists, items, files and texts answers.
pub mod Lists
pub mod Programs
