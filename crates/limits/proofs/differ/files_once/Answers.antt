-- `files_once`: that the names of files differ.
use Rattle.std.proofs.Common.{ap, ◌∙◌}
use Rattle.language.specs.Syntax.{File}
use Rattle.language.specs.Checks.{once}
use Rattle.limits.proofs.Places.{files_here, map_files}
use Rattle.limits.proofs.differ.files_once.Goals as goal

pub returns : goal.returns
returns c = λ p e. c.differ.ensures c.args.row.now p (λ (f : File). f.name) (c.files_of.ensures p e) files_here ∙ ap once (map_files p)
