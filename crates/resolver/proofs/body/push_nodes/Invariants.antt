-- `push_nodes`: the loop's invariant, by what is left.
use Rattle.names.specs.Function.{IsFunction}
use Rattle.std.proofs.Common.{◌≡◌, true, List}
use Rattle.language.specs.Syntax.{Name, Fn, Prog}
use Rattle.language.specs.Checks.{ok_fn}
use Rattle.rows.specs.Nodes.{Node}
use Rattle.steps.specs.Fits.{Each}
use Rattle.steps.specs.Generate.{scope, slots_of}
use Rattle.limits.specs.Body.{NodesLeft}
use Rattle.limits.proofs.EntryLaws.{Rest}
use Rattle.resolver.specs.Sound.{Sound, Checked, Lent}
use Rattle.resolver.proofs.Walking.{Pushing}
use Rattle.resolver.proofs.Nodes.{node_to}
use Rattle.resolver.proofs.body.push_nodes.Given as goal

abbrev pub invariant-loop-node : goal.invariant-loop-node
invariant-loop-node l =
    Lent l.initial.out l.out
    × ((p : Prog) (f : Name) (g : Fn) (ns : List Node) → Sound l.fn.function.file.row.now p → ok_fn p f g ≡ true → IsFunction p f g l.fn.function → NodesLeft l.fn.function.file.row.now l.fn.nodes ns → Each (Checked p f) ns → Rest NodesLeft l.fn.function.file.row.now (Pushing (node_to (scope p f (slots_of g))) (Checked p f) ns l.initial.out l.out) l.node-iterator)
