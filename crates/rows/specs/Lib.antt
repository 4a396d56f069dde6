-- Rows of lent words, what stands in them, and programs as rows.
pub mod Row
pub mod Has
pub mod Kinds
pub mod Nodes
pub mod NodeTags
pub mod Trees
