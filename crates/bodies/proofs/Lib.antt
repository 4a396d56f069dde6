-- The proofs that functions rest on.
pub mod Marking
pub mod Expressions
pub mod Statements
