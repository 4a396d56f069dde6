-- `give`: a name that items give, item by item.
use Rattle.std.proofs.Common.{refl, rules}
use Rattle.language.specs.Syntax.{listed}
use Rattle.language.specs.Checks.{names_in}
use Rattle.rows.specs.Trees.{item_row}
use Rattle.limits.specs.Apart.{item_names}
use Rattle.limits.specs.Entries.{Left}
use Rattle.limits.proofs.EntryLaws.{any_is}
use Rattle.limits.proofs.ApartLaws.{listed_more}
use Rattle.limits.proofs.differ.give.Goals as goal

pub returns : goal.returns
returns c = λ is k.
    let x = c.args.name.now in
    any_is (Left item_row) (λ i. listed x (item_names i)) (λ i j b f' h q. search rules) (λ js. listed x (names_in js)) refl (listed_more x) k c.any.ensures.ran
