-- `count_files`: file by file.
use Rattle.std.proofs.Common.{◌≡◌, ◌+◌, min, arith, rules}
use Rattle.rows.specs.Kinds.{item_kind_no}
use Rattle.rows.specs.Trees.{file_row}
use Rattle.limits.specs.Entries.{Left}
use Rattle.limits.proofs.EntryLaws.{fold_is}
use Rattle.resolver.specs.Items.{sum_of, sort_in}
use Rattle.resolver.proofs.ItemLoops.{sorts_small}
use Rattle.resolver.proofs.items.count_files.Goals as goal

pub returns : goal.returns
returns c = λ p e.
    let n = item_kind_no c.args.kind in
    omega (
      arith,
      fold_is (Left file_row) (sort_in n) (λ a m. min (a + m) 18446744073709551615) (λ a b f j f' h q. search rules)
          (λ a fs. a + sum_of (sort_in n) fs ≡ sum_of (sort_in n) p) (λ a f fs q. omega (arith, q, sorts_small n p (omega arith) e)) (c.files_of.ensures p e) (omega arith) c.fold.ensures.ran,
    )
