-- Loops and recursion of `number`: what holds, and what becomes less.
use Rattle.std.proofs.Common.{◌≡◌, ◌^◌, ◌<◌, drop}
use Rattle.grammar.specs.Text.{decimal}
use Rattle.pieces.proofs.names.number.Given as goal

abbrev pub invariant-loop-c : goal.invariant-loop-c
invariant-loop-c l = (l.v < 10 ^ l.c-index) × (decimal 0 l.w ≡ decimal l.v (drop l.c-index l.w))
