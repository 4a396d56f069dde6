use Rattle.std.proofs.Common.{◌≡◌, take}
use Rattle.board.specs.Filling.{stream, later}
use Rattle.board.proofs.filling.fill_random.Given as goal

-- the words so far, and the state after them
abbrev pub invariant-loop-word : goal.invariant-loop-word
invariant-loop-word l = (take l.word-index l.words ≡ stream l.word-index l.seed) × (l.state ≡ later l.word-index l.seed)
