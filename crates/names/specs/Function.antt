-- A function where it stands in the row of a program: an item of a file.
use Rattle.language.specs.Syntax.{Name, Fn, i_fn, Prog}
use Rattle.rows.specs.Has.{Has}
use Rattle.rows.specs.Trees.{item_row}
use Rattle.names.specs.File.{IsFile}
use Rattle.names.specs.declared.function.Function.{Function}

pub record IsFunction (p : Prog) (f : Name) (g : Fn) (s : Function) : Type 0 where
  pub file : IsFile p f s.file
  pub item : Has s.file.row.now s.item (item_row (i_fn g))
