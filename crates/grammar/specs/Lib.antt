-- From bytes to a program, as it must be believed; the model parser; the bounds that the grammar gives; samples.
pub mod Text
pub mod Parse
pub mod ParseAll
pub mod Equations
pub mod Reading
pub mod Bounds
pub mod Budget
pub mod Laws
pub mod Samples
