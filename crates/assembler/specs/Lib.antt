-- What is written (Emission), of which operators (Operators), depending on what (Frames, Tables), and what stands in the image then (Assembled).
pub mod Operators
pub mod Frames
pub mod Emission
pub mod Tables
pub mod Assembled
