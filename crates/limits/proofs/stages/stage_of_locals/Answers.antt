-- `stage_of_locals`: the stage of a function's names, name by name.
use Rattle.std.proofs.Common.{◌≡◌, max, arith, rules}
use Rattle.language.specs.Syntax.{stage_k}
use Rattle.rows.specs.Trees.{Local, local_row}
use Rattle.limits.specs.Entries.{Left}
use Rattle.limits.specs.Stages.{locals_stage}
use Rattle.limits.proofs.EntryLaws.{fold_is}
use Rattle.limits.proofs.stages.stage_of_locals.Goals as goal

pub returns : goal.returns
returns c = λ ls k. omega (arith, fold_is (Left local_row) (λ (l : Local). stage_k l.kind) max (λ a b l j f' h q. search rules) (λ a ms. locals_stage ls ≡ max a (locals_stage ms)) (λ a l ms p. omega arith) k (omega arith) c.fold.ensures.ran)
