-- The sample programs, instruction by instruction.
use mathlib.Core.Path.{refl}
use Rattle.language.specs.Samples.{factorial}
use Rattle.lower.specs.Lower.{live_of}
use Rattle.lower.specs.Samples.{endless, arrays, calls, Worked}

pub worked : Worked
unfolding factorial endless arrays calls live_of
worked = record { factorial_runs = refl; endless_full = refl; arrays_run = refl; arrays_short = refl; calls_run = refl; calls_outside = refl; factorial_row = refl }
