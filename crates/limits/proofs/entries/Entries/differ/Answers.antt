-- `Entries::differ`: that the names of entries differ, one by one.
use Rattle.std.proofs.Common.{Bool, not, ◌&&◌, sym, refl, ap, ◌∙◌, arith}
use Rattle.language.specs.Syntax.{listed}
use Rattle.language.specs.Checks.{once}
use Rattle.rows.specs.Trees.{map_list}
use Rattle.limits.specs.Entries.{Left}
use Rattle.limits.proofs.EntryLaws.{rest_by, rest_next, rest_none, name_near, short_row, at_lent}
use Rattle.limits.proofs.entries.Entries.differ.Goals as goal

pub loop-here-init : goal.loop-here-init
loop-here-init g c = (tt, tt, λ w ts name_of k at. record { ts = ts; left = k; holds = refl })

pub loop-here-preserved : goal.loop-here-preserved
loop-here-preserved g c = (
  tt,
  tt,
  λ w ts name_of k at.
      rest_next (Left g.E.Entry.row_of) (c.loop-here.invariant.2 w ts name_of k at) c.in-Some.ensures.steps
      (λ x xs h r p. let n = c.name_at.ensures (name_of x) (at_lent r (name_near c.args.offset (short_row k (omega arith)) at x c.in-Some.here c.saturating_add.result c.saturating_add.ensures h)) in
      p ∙ ap (λ (b : Bool). not b && once (map_list name_of xs)) (sym (c.if-have.ensures w xs name_of r at ∙ ap (λ y. listed y (map_list name_of xs)) n))),
)

pub returns-then-have : goal.returns-then-have
returns-then-have g c = λ w ts name_of k at.
    rest_by (Left g.E.Entry.row_of) (c.loop-here.invariant.2 w ts name_of k at) c.in-Some.ensures.steps
    (λ x xs h r p. let n = c.name_at.ensures (name_of x) (at_lent r (name_near c.args.offset (short_row k (omega arith)) at x c.in-Some.here c.saturating_add.result c.saturating_add.ensures h)) in
    sym (p ∙ ap (λ (b : Bool). not b && once (map_list name_of xs)) (sym (c.if-have.ensures w xs name_of r at ∙ ap (λ y. listed y (map_list name_of xs)) n))))

pub returns : goal.returns
returns g c = λ w ts name_of k at. sym (rest_none (Left g.E.Entry.row_of) (c.loop-here.invariant.2 w ts name_of k at) c.in_default.ensures.steps)
