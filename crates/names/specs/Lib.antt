-- What look-ups answer, and the check of a body node by node.
pub mod Finds
pub mod Fold
pub mod Kinds
pub mod Effects
pub mod Pile
pub mod Resolved
pub mod Refer
pub mod File
pub mod Function
