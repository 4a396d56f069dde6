-- Loops and recursion of `check_flat`: what holds, and what becomes less.
use Rattle.std.proofs.Common.{◌≡◌, length}
use Rattle.grammar.specs.Text.{pieces, gap}
use Rattle.pieces.proofs.Flatness.{both}
use Rattle.pieces.proofs.flat.check_flat.Given as goal

abbrev pub invariant-loop-piece : goal.invariant-loop-piece
invariant-loop-piece l = both 0 0 (pieces gap l.text) ≡ both l.nesting.brackets l.nesting.signs (pieces gap l.rest)

abbrev pub decreases-loop-piece : goal.decreases-loop-piece
decreases-loop-piece l = length l.rest
