-- `count_items`: item by item.
use Rattle.std.proofs.Common.{◌≡◌, ◌+◌, min, arith, rules}
use Rattle.rows.specs.Kinds.{item_kind_no}
use Rattle.rows.specs.Trees.{item_row}
use Rattle.limits.specs.Entries.{Left}
use Rattle.limits.proofs.EntryLaws.{fold_is}
use Rattle.resolver.specs.Items.{sum_of, is_sort}
use Rattle.resolver.proofs.ItemLoops.{sort_small}
use Rattle.resolver.proofs.items.count_items.Goals as goal

pub returns : goal.returns
returns c = λ f h.
    let n = item_kind_no c.args.kind in
    omega (
      arith,
      fold_is (Left item_row) (is_sort n) (λ a m. min (a + m) 18446744073709551615) (λ a b i j f' k q. search rules)
          (λ a is. a + sum_of (is_sort n) is ≡ sum_of (is_sort n) f.items) (λ a i is p. omega (arith, p, sort_small n f (omega arith) h)) (c.items_of.ensures.left f h) (omega arith) c.fold.ensures.ran,
    )
