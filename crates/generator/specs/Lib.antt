-- From the nodes of a body to its steps, node by node: names replaced by what they stand for (Resolved), steps written (Emit), places counted
-- (Peak); and both as rows of words (ResolvedRows, StepRows).
pub mod Resolved
pub mod ResolvedRows
pub mod Emit
pub mod Peak
pub mod StepRows
pub mod Core
