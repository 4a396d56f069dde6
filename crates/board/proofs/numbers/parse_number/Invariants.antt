use Rattle.std.proofs.Common.{◌≡◌, drop}
use Rattle.board.specs.Numbers.{number}
use Rattle.board.proofs.Decimal.{folded}
use Rattle.board.proofs.numbers.parse_number.Given as goal

-- what is left makes the same number behind the value so far
abbrev pub invariant-loop-b : goal.invariant-loop-b
invariant-loop-b l = folded l.value (drop l.b-index l.text) ≡ number l.text
