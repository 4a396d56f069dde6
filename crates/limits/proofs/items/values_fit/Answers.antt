-- `values_fit`: values below their limit, one by one.
use Rattle.std.proofs.Common.{◌&&◌, ltb, refl, sym, ap, rules}
use Rattle.language.specs.Checks.{words_ok}
use Rattle.rows.specs.Nodes.{num_row}
use Rattle.limits.specs.Entries.{Left}
use Rattle.limits.proofs.EntryLaws.{all_is}
use Rattle.limits.proofs.items.values_fit.Goals as goal

pub returns : goal.returns
returns c = λ wide ns e k.
    all_is (Left num_row) (λ n. ltb n c.args.limit) (λ n j b f' h q. search rules) (words_ok wide) refl (λ n ms. ap (λ l. ltb n l && words_ok wide ms) (sym e)) k c.all.ensures.ran
