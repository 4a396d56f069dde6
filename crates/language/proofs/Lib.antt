-- The proofs of the laws.
pub mod Growth
pub mod WellTyped
pub mod Tops
pub mod WordResults
pub mod Safe
pub mod WordsStay
pub mod Samples
