-- Proofs about look-ups.
pub mod OwnNames
pub mod Searching
pub mod Listing
pub mod Resolving
pub mod Folding
pub mod NameKinds
pub mod NodeEffects
pub mod Piles
pub mod BodyNodes
pub mod Referring
pub mod Referents
