-- `are_kinds`: kind by kind, name by name.
use Rattle.std.proofs.Common.{sym, ◌∙◌}
use Rattle.rows.specs.Trees.{local_row}
use Rattle.rows.proofs.Having.{has_word}
use Rattle.limits.specs.Entries.{Left}
use Rattle.limits.proofs.EntryLaws.{rest_by, rest_next, rest_none}
use Rattle.names.proofs.Piles.{compared_none, compared_more, compared_stop, compared_all}
use Rattle.names.proofs.follow.are_kinds.Goals as goal

pub returns-in_default : goal.returns-in_default
returns-in_default c = λ ls ks k e. rest_by (Left local_row) (c.loop-name.invariant ls ks k e) c.in-Some.ensures.steps (λ m ms h r v. compared_none m ms v c.in_default.ensures.cases)

pub returns-then-at-kind : goal.returns-then-at-kind
returns-then-at-kind c = λ ls ks k e.
    rest_by (Left local_row) (c.loop-name.invariant ls ks k e) c.in-Some.ensures.steps
    (λ m ms h r v. compared_stop m ms v c.in-Some-split_first.ensures.cases.0 (λ q. c.if-at-kind.true (c.at.ensures.is ∙ has_word h ∙ sym q)))

pub loop-name-preserved : goal.loop-name-preserved
loop-name-preserved c = λ ls ks k e.
    rest_next (Left local_row) (c.loop-name.invariant ls ks k e) c.in-Some.ensures.steps
    (λ m ms h r v. compared_more m ms v c.in-Some-split_first.ensures.cases.0 (sym c.if-at-kind.false ∙ c.at.ensures.is ∙ has_word h))

pub returns : goal.returns
returns c = λ ls ks k e. compared_all c.is_empty.ensures (rest_none (Left local_row) (c.loop-name.invariant ls ks k e) c.in-None.ensures.steps)
