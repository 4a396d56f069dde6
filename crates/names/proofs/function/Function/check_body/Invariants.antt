-- `check_body`: the loop's invariant, by what is left.
use Rattle.std.proofs.Common.{◌+◌, ◌≤◌, length}
use Rattle.language.specs.Syntax.{Name, Fn, Prog}
use Rattle.limits.specs.Body.{NodesLeft}
use Rattle.names.specs.Function.{IsFunction}
use Rattle.limits.proofs.EntryLaws.{Rest}
use Rattle.names.proofs.BodyNodes.{Checking}
use Rattle.names.proofs.function.Function.check_body.Given as goal

abbrev pub invariant-loop-node : goal.invariant-loop-node
invariant-loop-node l =
    (length l.self.file.row.now ≤ length l.pile.words.now) × (l.pile.len + l.node-iterator.left ≤ length l.self.file.row.now) × (l.depth + l.node-iterator.left ≤ length l.self.file.row.now)
    × ((p : Prog) (f : Name) (g : Fn) → IsFunction p f g l.self → Rest NodesLeft l.self.file.row.now (Checking l.pile.words.now p f g l.pile.len l.depth) l.node-iterator)
