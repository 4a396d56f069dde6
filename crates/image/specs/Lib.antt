-- Images, how they are loaded, and what the loader promises.
pub mod Image
pub mod Rows
pub mod Place
