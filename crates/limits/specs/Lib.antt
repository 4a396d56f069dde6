-- What can be told of a program's row without looking names up.
pub mod Stages
pub mod Totals
pub mod Within
pub mod Apart
pub mod Split
pub mod Head
pub mod Entries
pub mod Body
