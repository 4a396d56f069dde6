use Rattle.std.proofs.Common.{◌≡◌, length, refl, ◌∙◌, arith}
use Rattle.lower.specs.Lower.{others, row_of}
use Rattle.assembler.proofs.Whole.{functions-given, code-end, no_room, assembled, table-room, none_some, some_same}
use Rattle.assembler.proofs.assemble.Goals as goal

pub returns-in_err-size : goal.returns-in_err-size
returns-in_err-size c m g r =
    let (w, a, b) = table-room g.core g.count r in
    let (is, es, ps) = c.in_err-size.ensures.is m (others m.funs) (functions-given g.core g.steps g.count) (omega (arith, code-end m c.args.program.main, g.core.short)) (omega (arith, a, c.in_ok-work.ensures.cases.1)) (omega (arith, b, c.in_ok-work.ensures.cases.4)) in
    none_some is

pub returns-then-image-whole : goal.returns-then-image-whole
returns-then-image-whole c m g r =
    let (w, a, b) = table-room g.core g.count r in
    let (is, es, ps) = c.in_ok-size.ensures.is m (others m.funs) (functions-given g.core g.steps g.count) (omega (arith, code-end m c.args.program.main, g.core.short)) (omega (arith, a, c.in_ok-work.ensures.cases.1)) (omega (arith, b, c.in_ok-work.ensures.cases.4)) in
    (no_room c.args.image.now g.core (some_same is ∙ code-end m c.args.program.main) c.if-image-whole.true, refl)

pub returns : goal.returns
returns c m g r =
    let (w, a, b) = table-room g.core g.count r in
    let (is, es, ps) = c.in_ok-size.ensures.is m (others m.funs) (functions-given g.core g.steps g.count) (omega (arith, code-end m c.args.program.main, g.core.short)) (omega (arith, a, c.in_ok-work.ensures.cases.1)) (omega (arith, b, c.in_ok-work.ensures.cases.4)) in
    let size : c.in_ok-size.size ≡ length (row_of m c.args.program.main) = some_same is ∙ code-end m c.args.program.main in
    assembled c.args.image.now g.core size g.words c.if-image-whole.false (c.write_image.ensures m g (record { entries = es; places = ps }) size)
