use Rattle.std.proofs.Common.{◌-◌, ◌<◌, List, length}
use Rattle.language.specs.Words.{all}
use Rattle.steps.specs.Steps.{MFn, MProg}
use Rattle.lower.specs.Lower.{entry_of}
use Rattle.assembler.specs.Tables.{FunctionsAre}
use Rattle.assembler.proofs.Measuring.{MeasuringAll}
use Rattle.assembler.proofs.measure.measure_functions.Given as goal

abbrev pub invariant-loop-i : goal.invariant-loop-i
invariant-loop-i l = (m : MProg) (fs : List MFn) → FunctionsAre l.program.steps.now l.program.count fs → entry_of m fs 6 (length fs) < all → MeasuringAll m fs l.rest l.initial.entries l.entries l.initial.places l.places (l.program.count - l.i) l.place
