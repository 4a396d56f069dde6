use Rattle.std.proofs.Common.{◌-◌, List}
use Rattle.rows.specs.Has.{Has}
use Rattle.steps.specs.Steps.{MFn, MProg}
use Rattle.steps.specs.Fits.{Each, FnFits}
use Rattle.assembler.specs.Tables.{all_starts, FunctionsAre, Tabled}
use Rattle.assembler.proofs.Emitting.{EmittingAll}
use Rattle.assembler.proofs.code.Code.functions.Given as goal

abbrev pub invariant-loop-i : goal.invariant-loop-i
invariant-loop-i l = (m : MProg) (fs : List MFn) → Tabled m l.program.words l.tables.entries.now → FunctionsAre l.program.steps.now l.program.count fs → Each (FnFits m) fs → Has l.tables.places.now 0 (all_starts m fs l.initial.self.here) → EmittingAll m fs l.rest l.tables.places.now l.initial.self l.self (l.program.count - l.i) l.first
