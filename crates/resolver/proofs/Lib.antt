-- Proofs about the pass that resolves names.
pub mod Meanings
pub mod Bounds
pub mod NodeSorts
pub mod CheckedNodes
pub mod Walking
pub mod Nodes
pub mod Locals
pub mod Routines
pub mod ItemLoops
pub mod Programs
