-- `fn_fits`: a function's limits, part by part.
use Rattle.std.proofs.Common.{◌&&◌, ◌++◌, inl, inr, length, sym, ap, ◌∙◌}
use Rattle.language.specs.Checks.{once, sizes, param_names, arr_names}
use Rattle.rows.specs.Trees.{Local, locals, map_list, of_array}
use Rattle.limits.specs.Within.{few}
use Rattle.limits.proofs.Flags.{and_assoc, joined}
use Rattle.limits.proofs.Places.{locals_here, long_params}
use Rattle.limits.proofs.ItemLaws.{few-same, sizes_local, names_local}
use Rattle.limits.proofs.items.fn_fits.Goals.{then-names_are_few, else-names_are_few}
use Rattle.limits.proofs.items.fn_fits.Goals as goal

pub returns-then-arrays_fit : goal.returns-then-arrays_fit
returns-then-arrays_fit c = λ g h.
    let d = c.head_of-head.ensures g h in
    let f = c.names_are_few.ensures ∙ few-same (c.len.ensures ∙ sym d.params.long ∙ long_params g) d.vars d.arrays in
    let v =
    joined (few (length g.params) (length g.vars) (length g.arrs)) (sizes 4096 g.arrs) f
    (elim c.if-names_are_few.branch [ then-names_are_few w ↦ inl (w.if-names_are_few.true, w.value-is ∙ w.arrays_fit.ensures (map_list of_array g.arrs) (w.own_arrays.ensures g d) ∙ sizes_local g.arrs) | else-names_are_few w ↦ inr (w.if-names_are_few.false, w.value-is ∙ w.if-names_are_few.false) ])
    in
    let o = once (param_names g.params ++ (g.vars ++ arr_names g.arrs)) in
    c.differ.ensures c.args.row.now (locals g) (λ (l : Local). l.name) d.locals locals_here ∙ ap once (names_local g) ∙ ap (λ t. t && o) (sym c.if-arrays_fit.true ∙ v) ∙ and_assoc (few (length g.params) (length g.vars) (length g.arrs)) (sizes 4096 g.arrs) o

pub returns-else-arrays_fit : goal.returns-else-arrays_fit
returns-else-arrays_fit c = λ g h.
    let d = c.head_of-head.ensures g h in
    let f = c.names_are_few.ensures ∙ few-same (c.len.ensures ∙ sym d.params.long ∙ long_params g) d.vars d.arrays in
    let v =
    joined (few (length g.params) (length g.vars) (length g.arrs)) (sizes 4096 g.arrs) f
    (elim c.if-names_are_few.branch [ then-names_are_few w ↦ inl (w.if-names_are_few.true, w.value-is ∙ w.arrays_fit.ensures (map_list of_array g.arrs) (w.own_arrays.ensures g d) ∙ sizes_local g.arrs) | else-names_are_few w ↦ inr (w.if-names_are_few.false, w.value-is ∙ w.if-names_are_few.false) ])
    in
    let o = once (param_names g.params ++ (g.vars ++ arr_names g.arrs)) in
    c.if-arrays_fit.false ∙ ap (λ t. t && o) (sym c.if-arrays_fit.false ∙ v) ∙ and_assoc (few (length g.params) (length g.vars) (length g.arrs)) (sizes 4096 g.arrs) o
