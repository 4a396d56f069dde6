-- What is promised (Promise), the compiler as a definition (Code, Lower), what is proved of it (Correct), and what `build` gives (Build).
pub mod Promise
pub mod Code
pub mod Lower
pub mod Correct
pub mod Core
pub mod Build
pub mod Samples
