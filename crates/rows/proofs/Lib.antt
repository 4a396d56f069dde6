pub mod Writing
pub mod TreeNodes
pub mod Having
pub mod Naming
pub mod Tagging
pub mod NodeRows
