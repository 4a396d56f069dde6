-- Proof of `mark_arg`.
use Rattle.std.proofs.Common.{arith}
use Rattle.bodies.proofs.Marking.{mark_none, mark_set}
use Rattle.bodies.proofs.put.mark_arg.Goals as goal
use Rattle.bodies.proofs.put.mark_arg.Goals.{then-out-start-via-then-out-start, then-out-start-via-else-out-start+then-out-start-2}

pub returns-then-size-lt2 : goal.returns-then-size-lt2
returns-then-size-lt2 c = mark_none c.args.start c.args.out.now (λ s. omega (arith, s.second))

pub returns-then-out-start : goal.returns-then-out-start
returns-then-out-start c = mark_none c.args.start c.args.out.now (λ s. elim c.then-out-start.branch [
  | then-out-start-via-then-out-start w ↦ w.if-out-start.true s.first
  | then-out-start-via-else-out-start+then-out-start-2 w ↦ w.if-out-start-2.true (omega (arith, s.second))
])

pub returns : goal.returns
returns c = mark_set c.args.start c.args.out.now c.set.new.self (record { first = c.if-out-start.false; second = omega (arith, c.if-out-start-2.false) }) c.set.ensures
