use Rattle.std.proofs.Common.{◌≡◌, ◌<◌, List, length}
use Rattle.rows.specs.Has.{Has}
use Rattle.rows.specs.Trees.{list_row}
use Rattle.steps.specs.Fits.{Each}
use Rattle.generator.specs.ResolvedRows.{Routine, routine_words}
use Rattle.stepper.specs.Swapped.{Lent}
use Rattle.stepper.specs.Bodies.{Good}
use Rattle.stepper.proofs.Routines.{Passed}
use Rattle.stepper.proofs.write_steps.Given as goal

abbrev pub invariant-loop-i : goal.invariant-loop-i
invariant-loop-i l = record {
  lent : Lent l.initial.out l.out;
  passed : (gs : List Routine) → Has l.initial.rest 0 (list_row routine_words gs) → l.count ≡ length gs → Each (λ g. Good g (length l.initial.pile)) gs → length l.initial.rest < 1073741824 → Passed l.rest gs (length l.initial.pile) l.i l.initial.out l.out;
}
