-- `kind_in`: the function's own names first.
use Rattle.std.proofs.Common.{Some, ap}
use Rattle.names.proofs.NameKinds.{kind-own, kind_else}
use Rattle.names.proofs.function.Function.kind_of.Goals as goal

pub returns-in-Some : goal.returns-in-Some
returns-in-Some c = λ p f g at1.
    let o = c.in-Some.ensures g at1.item in
    kind-own p f g c.args.name.now o.is (ap Some o.kind)

pub returns-in-None : goal.returns-in-None
returns-in-None c = λ p f g at1. kind_else p f g c.args.name.now (c.in-None.ensures g at1.item) (c.top_kind.ensures p f at1.file)
