-- `elements_of_file`: the elements that a file adds, item by item, cut off at the largest number.
use Rattle.std.proofs.Common.{◌≡◌, ◌+◌, ◌≤◌, min, arith, rules}
use Rattle.language.specs.Checks.{total}
use Rattle.rows.specs.Trees.{item_row}
use Rattle.limits.specs.Entries.{Left}
use Rattle.limits.specs.Totals.{elements}
use Rattle.limits.proofs.EntryLaws.{fold_is}
use Rattle.limits.proofs.TotalLaws.{total-more}
use Rattle.limits.proofs.totals.elements_of_file.Goals as goal

pub returns : goal.returns
returns c = λ f h.
    let r =
    fold_is (Left item_row) elements (λ a n. min (a + n) 18446744073709551615) (λ a b i j f' k q. search rules)
    (λ a is. (a ≤ 18446744073709551615) × (min (total f.items) 18446744073709551615 ≡ min (a + total is) 18446744073709551615)) (λ a i is p. (omega arith, omega (arith, p.1, total-more i is)))
    (c.items_of.ensures.left f h) (omega arith, omega arith) c.fold.ensures.ran
    in
    omega (arith, r.0, r.1)
