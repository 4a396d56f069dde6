-- The model parser's equations with no count of pieces, gathered: of expressions from ExprFuel, of the rest by `again_is`.
-- Parser code is proved against these.
use mathlib.Core.Path.{◌≡◌}
use mathlib.Core.List.{List}
use Rattle.language.specs.Syntax.{Name}
use Rattle.grammar.specs.ParseAll.{again, body_step, body, pars_step, arrs_step, items_step, files_step, parse}
use Rattle.grammar.specs.Equations.{Equations}
use Rattle.grammar.proofs.ExprFuel.{reader-fixed}
use Rattle.grammar.proofs.Unrolling.{again_is}
use Rattle.grammar.proofs.StmtFuel.{body_well}
use Rattle.grammar.proofs.ItemFuel.{pars_well, arrs_well, items_well, files_well}

pub body_is : (s : List Name) → body s ≡ body_step body s
body_is s = again_is body_step body_well s

pub pars-is : (s : List Name) → again pars_step s ≡ pars_step (again pars_step) s
pars-is s = again_is pars_step pars_well s

pub arrs-is : (s : List Name) → again arrs_step s ≡ arrs_step (again arrs_step) s
arrs-is s = again_is arrs_step arrs_well s

pub items-is : (s : List Name) → again items_step s ≡ items_step (again items_step) s
items-is s = again_is items_step items_well s

pub files-is : (s : List Name) → parse s ≡ files_step parse s
unfolding parse
files-is s = again_is files_step files_well s

pub equations : Equations
equations = record {
  expressions = reader-fixed;
  bodies = body_is;
  parameters = pars-is;
  arrays = arrs-is;
  items = items-is;
  files = files-is;
}
