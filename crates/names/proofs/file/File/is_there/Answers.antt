-- `is_there`: whether it was found.
use Rattle.std.proofs.Common.{◌∙◌}
use Rattle.language.specs.Meaning.{all_tops}
use Rattle.names.proofs.Referring.{found-there}
use Rattle.names.proofs.file.File.is_there.Goals as goal

pub returns : goal.returns
returns c = λ p y hf. c.is_some.ensures ∙ found-there c.args.self.row.now (all_tops p 0 0) y c.args.name.now c.find_top.result (c.find_top.ensures p y hf)
