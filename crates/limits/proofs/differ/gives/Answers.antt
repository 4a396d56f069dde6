-- `gives`: a name that an item gives, by its kind.
use Rattle.std.proofs.Common.{◌≡◌, ◌∙◌, ap, arith}
use Rattle.language.specs.Syntax.{listed}
use Rattle.rows.specs.declared.kind.ItemKind.TheVariants.{Use}
use Rattle.rows.specs.Trees.{name_of}
use Rattle.limits.specs.Apart.{item_names}
use Rattle.limits.proofs.Places.{by_kind, item_name, names_here, map_same}
use Rattle.limits.proofs.ApartLaws.{listed-own}
use Rattle.limits.proofs.differ.gives.Goals as goal

pub returns-in-Use : goal.returns-in-Use
returns-in-Use c =
    let x = c.args.name.now in
    by_kind Use (λ i. c.have.result ≡ listed x (item_names i)) c.item_kind_at.ensures c.in-Use.is (λ y xs k. c.have.ensures c.args.row.now xs (λ z. z) (c.used.ensures y xs k) names_here ∙ ap (listed x) (map_same xs))

pub returns-in_default : goal.returns-in_default
returns-in_default c = λ i h.
    let x = c.args.name.now in
    c.is_named.ensures (name_of i) (item_name (omega arith) c.saturating_add.ensures i h) ∙ listed-own i (λ e. c.in_default.not-Use (c.item_kind_at.ensures i h ∙ e)) x
