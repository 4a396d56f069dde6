-- Loops and recursion of `gap_len`: what holds, and what becomes less.
use Rattle.std.proofs.Common.{◌≡◌, ◌-◌, ◌≤◌, length, drop}
use Rattle.grammar.specs.Text.{pieces, gap}
use Rattle.pieces.proofs.Lexing.{lull}
use Rattle.pieces.proofs.lex.gap_len.Given as goal

abbrev pub invariant-loop-n : goal.invariant-loop-n
invariant-loop-n l = (l.n ≤ length l.text) × (pieces gap l.text ≡ pieces (lull l.noted) (drop l.n l.text))

abbrev pub decreases-loop-n : goal.decreases-loop-n
decreases-loop-n l = length l.text - l.n
