-- The processor as it must be believed, its instructions as data and as words, what the code promises, and a sample.
pub mod Machine
pub mod Instr
pub mod Decode
pub mod Promise
pub mod Samples
