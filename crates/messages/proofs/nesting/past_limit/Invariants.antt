-- What holds at each piece: what is left, from the counts so far, keeps to each limit exactly if the whole text does.
use Rattle.std.proofs.Common.{◌≡◌, length}
use Rattle.grammar.specs.Text.{pieces, gap, flat, calm}
use Rattle.messages.proofs.nesting.past_limit.Given as goal

abbrev pub invariant-loop-cutting : goal.invariant-loop-cutting
invariant-loop-cutting l = (flat 0 (pieces gap l.text) ≡ flat l.nesting.brackets (pieces gap l.cutting-iterator.text.now)) × (calm 0 (pieces gap l.text) ≡ calm l.nesting.signs (pieces gap l.cutting-iterator.text.now))
