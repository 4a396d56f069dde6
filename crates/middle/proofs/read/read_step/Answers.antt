use Rattle.std.proofs.Common.{sym, ap, ◌∙◌, subst}
use Rattle.std.specs.Result.{result_ok}
use Rattle.middle.specs.Steps.{ReadsBack}
use Rattle.middle.proofs.Back.{back_alone}
use Rattle.middle.proofs.read.read_step.Goals as goal

pub returns : goal.returns
returns c = λ s k h. subst (ReadsBack s) (sym (c.ok.ensures.value ∙ ap result_ok c.try_from.ensures)) (back_alone c.args.words.now s k h)
