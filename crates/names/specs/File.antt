-- A file where it stands in the row of a program, by the place of its name.
use Rattle.std.specs.Prelude.{◌≡◌}
use Rattle.language.specs.Syntax.{Name, Prog}
use Rattle.rows.specs.Has.{Has, named}
use Rattle.rows.specs.Trees.{prog_row}
use Rattle.names.specs.declared.file.File.{File}

pub record IsFile (p : Prog) (f : Name) (s : File) : Type 0 where
  pub row : s.row.now ≡ prog_row p
  pub name : Has s.row.now s.name (named f)
