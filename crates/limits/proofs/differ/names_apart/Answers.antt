-- `names_apart`: that names differ from those behind them, one by one.
use Rattle.std.proofs.Common.{Bool, not, ◌&&◌, ◌||◌, sym, refl, ap, ◌∙◌, ap₂}
use Rattle.language.specs.Syntax.{listed}
use Rattle.language.specs.Checks.{names_in}
use Rattle.rows.specs.Has.{named}
use Rattle.limits.specs.Apart.{apart}
use Rattle.limits.specs.Entries.{Left}
use Rattle.limits.proofs.EntryLaws.{rest_by, rest_next, rest_none}
use Rattle.limits.proofs.Places.{names_here, map_same}
use Rattle.limits.proofs.ApartLaws.{listed-append}
use Rattle.limits.proofs.differ.names_apart.Goals as goal

pub loop-here-init : goal.loop-here-init
loop-here-init c = (tt, tt, λ xs is k ki. record { ts = xs; left = k; holds = refl })

pub loop-here-preserved : goal.loop-here-preserved
loop-here-preserved c = (
  tt,
  tt,
  λ xs is k ki.
      rest_next (Left named) (c.loop-here.invariant.2 xs is k ki) c.in-Some.ensures.steps
      (λ x ms h r p. let n = c.name_at-name.ensures x h in
      let e = ap₂ (λ (s t : Bool). s || t) (c.have.ensures c.args.row.now ms (λ z. z) r names_here ∙ ap₂ listed n (map_same ms)) (c.give.ensures is ki ∙ ap (λ y. listed y (names_in is)) n) ∙ sym (listed-append x ms (names_in is)) in
      p ∙ ap (λ (t : Bool). not t && apart ms (names_in is)) (sym e ∙ c.if-have-give.false)),
)

pub returns-then-have-give : goal.returns-then-have-give
returns-then-have-give c = λ xs is k ki.
    rest_by (Left named) (c.loop-here.invariant.2 xs is k ki) c.in-Some.ensures.steps
    (λ x ms h r p. let n = c.name_at-name.ensures x h in
    let e = ap₂ (λ (s t : Bool). s || t) (c.have.ensures c.args.row.now ms (λ z. z) r names_here ∙ ap₂ listed n (map_same ms)) (c.give.ensures is ki ∙ ap (λ y. listed y (names_in is)) n) ∙ sym (listed-append x ms (names_in is)) in
    sym (p ∙ ap (λ (t : Bool). not t && apart ms (names_in is)) (sym e ∙ c.if-have-give.true)))

pub returns : goal.returns
returns c = λ xs is k ki. sym (rest_none (Left named) (c.loop-here.invariant.2 xs is k ki) c.in_default.ensures.steps)
