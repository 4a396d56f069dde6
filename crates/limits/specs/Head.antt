-- What the head of a function's row says of the function.
use Rattle.std.specs.Prelude.{◌≡◌, List, ℕ, ◌++◌, length}
use Rattle.language.specs.Syntax.{Fn}
use Rattle.rows.specs.Has.{Has}
use Rattle.rows.specs.Nodes.{body_row}
use Rattle.rows.specs.Trees.{local_row, list_row, map_list, of_param, of_var, locals as all_locals}
use Rattle.limits.specs.Entries.{Left}
use Rattle.limits.specs.declared.head.Head.{Head}

pub record Heads (w : List ℕ) (g : Fn) (r : Head) : Type 0 where
  pub params : Left local_row w r.params (map_list of_param g.params)
  pub words : Left local_row w r.words (map_list of_param g.params ++ map_list of_var g.vars)
  pub locals : Left local_row w r.locals (all_locals g)
  pub vars : r.vars ≡ length g.vars
  pub arrays : r.arrays ≡ length g.arrs
  pub first : r.words.here ≡ r.locals.here
  -- the names and the body
  pub body : Has w r.locals.here (list_row local_row (all_locals g) ++ body_row g.body)
