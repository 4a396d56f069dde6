use Rattle.std.proofs.Common.{◌≡◌, drop, None, vec_items}
use Rattle.board.specs.Numbers.{numbers}
use Rattle.board.proofs.Decimal.{joined}
use Rattle.board.proofs.numbers.read_words.Given as goal

-- the numbers so far, and those of what is left behind the one that has begun
abbrev pub invariant-loop-b : goal.invariant-loop-b
invariant-loop-b l = joined (vec_items l.words) (numbers l.begun (drop l.b-index l.text)) ≡ numbers None l.text
