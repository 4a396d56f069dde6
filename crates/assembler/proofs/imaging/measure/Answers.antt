use Rattle.std.proofs.Common.{sym, refl, arith, rules}
use Rattle.assembler.proofs.Whole.{has_same, pushed-table, begins-long, all-starts-long, reached}
use Rattle.assembler.proofs.imaging.measure.Goals as goal

pub returns-clause-is : goal.returns-clause-is
returns-clause-is c m fs h s a b =
    let (size, e, p) = c.in_ok-size.ensures m fs h (omega (arith, s)) in
    let se = sym e.same in
    let sp = sym p.same in
    let te = pushed-table refl e (omega (arith, a, begins-long m fs 6)) in
    let tp = pushed-table refl p (omega (arith, b, all-starts-long m fs 6)) in
    (reached c.then_some.ensures size s, has_same (search rules) te, has_same (search rules) tp)
