-- Proof of `all_of`.
use Rattle.parser.proofs.Counting.{list_none, part_on, part_done}
use Rattle.parser.proofs.element.all_of.Goals as goal

pub loop-behind-init : goal.loop-behind-init
loop-behind-init g c = list_none g.P.Part.list g.P.Part.words c.args.text.now c.args.out.now

pub loop-behind-preserved : goal.loop-behind-preserved
loop-behind-preserved g c = part_on g.P.Part.list g.P.Part.words c.loop-behind.invariant (rw c.in-Some.is at c.in_ok-behind.ensures)

pub returns : goal.returns
returns g c =
    let e = rw c.in_default.is at c.in_ok-behind.ensures in
    part_done g.P.Part.list g.P.Part.words c.requires.ready.short c.loop-behind.invariant e.0 e.1
