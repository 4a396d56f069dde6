-- What the pass over a program's row takes for granted, and what it makes of a name by what the name stands for.
pub mod Sound
pub mod Stands
pub mod Items
