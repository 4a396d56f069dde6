-- The model parser with no count of pieces: each of its functions is its own step, called on what is left.
-- Rests on Parse and ParseAll; parser code is proved against these equations, and against nothing else of the model.
use Rattle.std.specs.Prelude.{◌≡◌, List, ℕ}
use Rattle.language.specs.Syntax.{Name, Expr}
use Rattle.grammar.specs.Parse.{Fns, one_step, chain_step, next_arg, reader}
use Rattle.grammar.specs.ParseAll.{again, body_step, body, pars_step, arrs_step, items_step, files_step, parse}

-- a reader of expressions that is its own step
pub record Fixed (R : Fns) : Type 0 where
  pub one_is : (s : List Name) → R.one s ≡ one_step R s
  pub chain_is : (n : ℕ) (a : Expr) (s : List Name) → R.chain n a s ≡ chain_step R n a s
  pub args_is : (s : List Name) → R.args s ≡ next_arg R s

pub record Equations : Type 0 where
  pub expressions : Fixed reader
  pub bodies : (s : List Name) → body s ≡ body_step body s
  pub parameters : (s : List Name) → again pars_step s ≡ pars_step (again pars_step) s
  pub arrays : (s : List Name) → again arrs_step s ≡ arrs_step (again arrs_step) s
  pub items : (s : List Name) → again items_step s ≡ items_step (again items_step) s
  pub files : (s : List Name) → parse s ≡ files_step parse s
