-- `declares`: the name of an item that is no use.
use Rattle.std.proofs.Common.{not, ◌&&◌, eqb, sym, ap, ◌∙◌, arith}
use Rattle.language.specs.Syntax.{same}
use Rattle.rows.specs.Trees.{item_no, name_of}
use Rattle.limits.proofs.Flags.{and-false}
use Rattle.limits.proofs.Places.{item_name}
use Rattle.names.proofs.Searching.{no_use, a_use}
use Rattle.names.proofs.find.declares.Goals.{in-Use, in_default}
use Rattle.names.proofs.find.declares.Goals as goal

pub returns-after-matches : goal.returns-after-matches
returns-after-matches c = λ i h k.
    let s = same (name_of i) c.args.name.now in
    let e = c.is_named.ensures (name_of i) (item_name (omega arith) c.saturating_add.ensures i h) in
    elim c.match-matches.branch [
      | in-Use w ↦ ap not w.matches-is ∙ ap (λ b. not b && s) (a_use i (sym w.in-Use.is ∙ k))
      | in_default w ↦ ap not w.matches-is ∙ sym c.if-is_named.true ∙ e ∙ ap (λ b. not b && s) (no_use i (λ u. w.in_default.not-Use (k ∙ u)))
    ]

pub returns-else-is_named : goal.returns-else-is_named
returns-else-is_named c = λ i h k.
    let e = c.is_named.ensures (name_of i) (item_name (omega arith) c.saturating_add.ensures i h) in
    c.if-is_named.false ∙ sym (and-false (not (eqb (item_no i) 5))) ∙ ap (λ s. not (eqb (item_no i) 5) && s) (sym c.if-is_named.false ∙ e)
