-- The lemmas behind the loader: lists of numbers, loading, and the laws of the promise.
pub mod Rows
pub mod Loads
pub mod Laws
