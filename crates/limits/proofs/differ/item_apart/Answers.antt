-- `item_apart`: that the names of an item differ from those behind them, by its kind.
use Rattle.std.proofs.Common.{◌≡◌, not, ap, ◌∙◌}
use Rattle.language.specs.Syntax.{listed}
use Rattle.language.specs.Checks.{names_in}
use Rattle.rows.specs.declared.kind.ItemKind.TheVariants.{Use}
use Rattle.limits.specs.Apart.{item_names, apart}
use Rattle.limits.proofs.Places.{by_kind}
use Rattle.limits.proofs.ApartLaws.{apart-own}
use Rattle.limits.proofs.differ.item_apart.Goals as goal

pub returns-in-Use : goal.returns-in-Use
returns-in-Use c = λ i is h k. by_kind Use (λ i. c.names_apart.result ≡ apart (item_names i) (names_in is)) c.item_kind_at.ensures c.in-Use.is (λ y xs hu. c.names_apart.ensures xs is (c.used.ensures y xs hu) k) i h

pub returns-in_default : goal.returns-in_default
returns-in_default c = λ i is h k.
    ap not (c.give.ensures is k ∙ ap (λ y. listed y (names_in is)) (c.own_name.ensures i h)) ∙ apart-own i (λ e. c.in_default.not-Use (c.item_kind_at.ensures i h ∙ e)) (names_in is)
