-- `is_used`: the names that a use takes.
use Rattle.std.proofs.Common.{◌≡◌, ap, ◌∙◌}
use Rattle.language.specs.Syntax.{listed}
use Rattle.rows.specs.declared.kind.ItemKind.TheVariants.{Use}
use Rattle.limits.proofs.Places.{by_kind, names_here, map_same}
use Rattle.names.specs.Finds.{uses}
use Rattle.names.proofs.Listing.{uses-none}
use Rattle.names.proofs.find.is_used.Goals as goal

pub returns-in-Use : goal.returns-in-Use
returns-in-Use c =
    let x = c.args.name.now in
    by_kind Use (λ i. c.have.result ≡ uses i x) c.item_kind_at.ensures c.in-Use.is (λ y xs k. c.have.ensures c.args.row.now xs (λ z. z) (c.used.ensures y xs k) names_here ∙ ap (listed x) (map_same xs))

pub returns-in_default : goal.returns-in_default
returns-in_default c = λ i h. uses-none i c.args.name.now (λ e. c.in_default.not-Use (c.item_kind_at.ensures i h ∙ e))
