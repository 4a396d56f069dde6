-- `find_called`: none of the function's own.
use Rattle.std.proofs.Common.{sym, ◌∙◌}
use Rattle.names.proofs.NameKinds.{called-own, called-top, own-some, own-none}
use Rattle.names.proofs.function.Function.find_called.Goals as goal

pub returns-then-is_some : goal.returns-then-is_some
returns-then-is_some c = λ p f g at1. let o = own-some g c.args.name.now c.own_in.result (c.own_in.ensures g at1.item) (sym c.is_some.ensures ∙ c.if-is_some.true) in called-own p f g c.args.name.now o.1

pub returns : goal.returns
returns c = λ p f g at1. called-top c.args.self.file.row.now p f g c.args.name.now (own-none g c.args.name.now c.own_in.result (c.own_in.ensures g at1.item) (sym c.is_some.ensures ∙ c.if-is_some.false)) c.resolve.result (c.resolve.ensures p f at1.file)
