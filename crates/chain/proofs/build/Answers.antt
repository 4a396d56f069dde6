-- `build`: what each layer answers is what the definition `built` gives, which keeps the promise.
use Rattle.std.proofs.Common.{◌≡◌, length, sym, subst, arith}
use Rattle.std.proofs.lemmas.Result.{err_from_is_err_and}
use Rattle.grammar.proofs.Reading.{reading-sound}
use Rattle.lower.specs.Promise.{BuiltPost}
use Rattle.chain.proofs.Layers.{text_short}
use Rattle.chain.proofs.Promised.{later_promised, refused_promised, generated_promised}
use Rattle.chain.proofs.build.Goals as goal

pub returns-in_err-tree : goal.returns-in_err-tree
returns-in_err-tree c =
    let p = err_from_is_err_and c.from_residual.result c.from_residual.ensures.1 in
    rw (p.1, p.2) (refused_promised _ c.in_err-tree.ensures)

pub returns-then-tree-gt-LANDED : goal.returns-then-tree-gt-LANDED
returns-then-tree-gt-LANDED c =
    let h = c.in_ok-tree.ensures in
    let is = h.1 in
    later_promised is.program h.0 is.read_as is.stage_is (omega arith)

pub returns : goal.returns
returns c =
    let h = c.in_ok-tree.ensures in
    let is = h.1 in
    let core = let z : Rattle.language.specs.Syntax.stage is.program ≡ 0 = omega (arith, is.stage_is) in z in
    let reads = reading-sound _ _ is.read_as in
    subst (λ r. BuiltPost c.args.text.now (length c.args.work.now) c.args.image.now c.generate.new.image r) (sym c.ok_or.ensures.value)
    (generated_promised c.generate.result is.program h.0 is.read_as (omega (arith, core)) (c.generate.ensures _ is.program reads core is.resolved_is (omega (arith, h.0, h.2, text_short _ _ reads))))
