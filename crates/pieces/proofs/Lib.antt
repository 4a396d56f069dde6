-- The proofs that functions rest on.
pub mod Lexing
pub mod Naming
pub mod Looking
pub mod Leading
pub mod Tying
pub mod Flatness
pub mod Refusing
