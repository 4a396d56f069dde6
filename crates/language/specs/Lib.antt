-- The language as it must be believed (Syntax, Words, Meaning, Checks), what can be seen of a run (Observe),
-- the laws that are proved of it (Laws), and worked programs (Samples).
pub mod Syntax
pub mod Words
pub mod Meaning
pub mod Checks
pub mod Observe
pub mod Laws
pub mod Samples
