use Rattle.std.proofs.Common.{arith}
use Rattle.language.specs.Meaning.{as_fn}
use Rattle.resolver.proofs.Bounds.{number_fits}
use Rattle.resolver.proofs.node.function_number.Goals as goal

pub returns-in-Some : goal.returns-in-Some
returns-in-Some c = λ p f so hf k.
    let v = c.in-Some.ensures p f hf in
    omega (arith, v.fns, number_fits as_fn f c.args.name.now so, c.saturating_add.ensures)
