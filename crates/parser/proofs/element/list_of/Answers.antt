-- Proof of `list_of`.
use Rattle.parser.proofs.Counting.{list_none, listed_last, listed_on}
use Rattle.parser.proofs.element.list_of.Goals as goal

pub loop-value-init : goal.loop-value-init
loop-value-init g c = list_none (g.E.Element.list c.args.element) (g.E.Element.words c.args.element) c.args.text.now c.args.out.now

pub returns-in-Some : goal.returns-in-Some
returns-in-Some g c =
    let e = c.args.element in
    listed_last (g.E.Element.list e) (g.E.Element.words e) (g.E.Element.tree e c.in_ok-value.value) c.requires.ready.short c.loop-value.invariant c.in_ok-value.ensures.0 (rw c.end-end.ensures.is at c.in-Some.ensures) c.put.ensures

pub loop-value-preserved : goal.loop-value-preserved
loop-value-preserved g c =
    let e = c.args.element in
    listed_on (g.E.Element.list e) (g.E.Element.words e) (g.E.Element.tree e c.in_ok-value.value) c.loop-value.invariant c.in_ok-value.ensures.0 c.in-Some-eat.ensures c.put-in-loop-value.ensures
