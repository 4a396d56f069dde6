-- `find_use`: the first use of a name.
use Rattle.std.proofs.Common.{None, Some, sym, ◌∙◌, subst, arith, rules}
use Rattle.language.specs.Meaning.{used_in}
use Rattle.rows.specs.Trees.{name_of, item_row}
use Rattle.limits.specs.Entries.{Left}
use Rattle.limits.proofs.EntryLaws.{find_is}
use Rattle.limits.proofs.Places.{item_name}
use Rattle.names.specs.Finds.{uses, FindsUse}
use Rattle.names.proofs.Listing.{other_item, this_item}
use Rattle.names.proofs.find.find_use.Goals as goal

pub returns-in_err-item : goal.returns-in_err-item
returns-in_err-item c = λ is k.
    let x = c.args.name.now in
    let m = find_is (Left item_row) (λ i. uses i x) (λ i j b f' h q. search rules) (λ js. used_in js x) (other_item x) c.find.new.self None k c.in_err-item.ensures.ran in
    subst (FindsUse c.args.row.now (used_in is x)) (sym c.from_residual.ensures) m

pub returns : goal.returns
returns c = λ is k.
    let x = c.args.name.now in
    let m = find_is (Left item_row) (λ i. uses i x) (λ i j b f' h q. search rules) (λ js. used_in js x) (other_item x) c.find.new.self (Some c.in_ok-item.item) k c.in_ok-item.ensures.ran in
    record {
      name = name_of m.0;
      here = item_name (omega arith) c.saturating_add.ensures m.0 m.2;
      is = m.4 ∙ this_item x m.0 m.1 m.3;
    }
