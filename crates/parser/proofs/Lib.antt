-- The proofs that functions rest on.
pub mod Patching
pub mod Counting
pub mod Listing
pub mod Params
pub mod Items
pub mod Function
pub mod Files
