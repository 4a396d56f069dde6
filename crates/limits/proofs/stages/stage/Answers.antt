-- `stage`: the stage of a program, file by file.
use Rattle.std.proofs.Common.{◌≡◌, max, arith, rules}
use Rattle.language.specs.Syntax.{File, stage_is, stage_fs}
use Rattle.rows.specs.Trees.{file_row}
use Rattle.limits.specs.Entries.{Left}
use Rattle.limits.proofs.EntryLaws.{fold_is}
use Rattle.limits.proofs.StageLaws.{stage-one, stage-more}
use Rattle.limits.proofs.stages.stage.Goals as goal

pub returns-then-len-gt1 : goal.returns-then-len-gt1
returns-then-len-gt1 c = λ p e.
    let k = c.files_of-files.ensures p e in
    let s = fold_is (Left file_row) (λ (f : File). stage_is f.items) max (λ a b f j f' h q. search rules) (λ a fs. stage_fs p ≡ max a (stage_fs fs)) (λ a f fs q. omega arith) k (omega arith) c.fold-stage.ensures.ran in
    omega (arith, s, stage-more p (omega (arith, k.long)))

pub returns-else-len-gt1 : goal.returns-else-len-gt1
returns-else-len-gt1 c = λ p e.
    let k = c.files_of-files.ensures p e in
    let s = fold_is (Left file_row) (λ (f : File). stage_is f.items) max (λ a b f j f' h q. search rules) (λ a fs. stage_fs p ≡ max a (stage_fs fs)) (λ a f fs q. omega arith) k (omega arith) c.fold-stage.ensures.ran in
    omega (arith, s, stage-one p (omega (arith, k.long)))
