-- How the code that writes steps stands to the fold over nodes.
pub mod Nodes
pub mod Swapped
pub mod Stands
pub mod Bodies
