-- Steps as data of the code.
pub mod Steps
