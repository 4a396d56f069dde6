pub mod Decimal
pub mod FourBytes
