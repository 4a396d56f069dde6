-- The three programs, step by step.
use Rattle.std.proofs.Common.{refl}
use Rattle.language.specs.Meaning.{div0, binary}
use Rattle.language.specs.Samples.{factorial, sums, tables}
use Rattle.steps.specs.Steps.{upd}
use Rattle.steps.specs.Samples.{Worked}

pub worked : Worked
unfolding factorial sums tables upd div0 binary
worked = record { factorial_ends = refl; sums_ends = refl; sums_short = refl; tables_ends = refl }
