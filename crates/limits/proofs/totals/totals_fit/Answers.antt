-- `totals_fit`: the elements of all files, file by file, and their limit.
use Rattle.std.proofs.Common.{◌≡◌, ◌+◌, min, arith, rules}
use Rattle.language.specs.Syntax.{File}
use Rattle.language.specs.Checks.{total, totals}
use Rattle.rows.specs.Trees.{file_row}
use Rattle.limits.specs.Entries.{Left}
use Rattle.limits.proofs.EntryLaws.{fold_is}
use Rattle.limits.proofs.TotalLaws.{leb_uncut}
use Rattle.limits.proofs.totals.totals_fit.Goals as goal

pub returns : goal.returns
returns c = λ p e.
    leb_uncut c.fold-sum.result (totals p)
    (fold_is (Left file_row) (λ (f : File). min (total f.items) 18446744073709551615) (λ a n. min (a + n) 18446744073709551615) (λ a b f j f' k q. search rules)
    (λ a fs. min (totals p) 18446744073709551615 ≡ min (a + totals fs) 18446744073709551615) (λ a f fs q. omega arith)
    (c.files_of.ensures p e) (omega arith) c.fold-sum.ensures.ran)
