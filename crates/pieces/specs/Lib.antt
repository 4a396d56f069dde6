-- What the cutting of pieces and the looking at them answer.
pub mod Cutting
pub mod Seen
pub mod Leads
pub mod Flat
pub mod Refusing
