-- `stage_of_file`: the stage of a file, item by item.
use Rattle.std.proofs.Common.{◌≡◌, max, arith, rules}
use Rattle.language.specs.Syntax.{stage_i, stage_is}
use Rattle.rows.specs.Trees.{item_row}
use Rattle.limits.specs.Entries.{Left}
use Rattle.limits.proofs.EntryLaws.{fold_is}
use Rattle.limits.proofs.stages.stage_of_file.Goals as goal

pub returns : goal.returns
returns c = λ f h. omega (arith, fold_is (Left item_row) stage_i max (λ a b i j f' k q. search rules) (λ a is. stage_is f.items ≡ max a (stage_is is)) (λ a i is p. omega arith) (c.items_of.ensures.left f h) (omega arith) c.fold.ensures.ran)
