use Rattle.std.proofs.Common.{◌≡◌, ◌<◌, List, length, map}
use Rattle.generator.specs.Resolved.{Resolved}
use Rattle.generator.specs.ResolvedRows.{node_words}
use Rattle.stepper.specs.Stands.{Kept}
use Rattle.stepper.specs.Bodies.{Fit}
use Rattle.stepper.proofs.Looping.{Reached}
use Rattle.stepper.proofs.body.write_body.Given as goal

abbrev pub invariant-loop-words : goal.invariant-loop-words
invariant-loop-words l = record {
  kept : Kept l.initial.writer l.writer;
  reached : (vs : List Resolved) → l.nodes ≡ map node_words vs → Fit l.base vs (length l.initial.writer.pile.now) → length vs < 1073741823 → Reached l.nodes l.base vs l.words-index l.waiting l.places l.writer l.initial.writer.out.now;
}
