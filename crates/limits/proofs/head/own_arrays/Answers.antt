-- `own_arrays`: behind parameters and variables.
use Rattle.std.proofs.Common.{◌++◌, ◌∙◌, sym}
use Rattle.rows.specs.Trees.{map_list, of_param, of_var, of_array}
use Rattle.rows.proofs.Having.{has_to}
use Rattle.limits.proofs.Places.{arrays_at, long_arrays}
use Rattle.limits.proofs.head.own_arrays.Goals as goal

pub returns : goal.returns
returns c = λ g h.
    let e = c.end.ensures c.args.row.now (map_list of_param g.params ++ map_list of_var g.vars) h.words in
    c.new.ensures.left (map_list of_array g.arrs) (arrays_at g (has_to (sym h.first) h.locals.here) e) (long_arrays g ∙ sym h.arrays)
