-- `call_with`: what was found.
use Rattle.std.proofs.Common.{sym, subst}
use Rattle.std.specs.declared.option.Option as std
use Rattle.limits.specs.declared.entries.Entries.{Entries}
use Rattle.limits.specs.declared.entries.Locals.{Locals}
use Rattle.names.specs.declared.asking.Effect.{Effect}
use Rattle.names.specs.Kinds.{FindsParams}
use Rattle.names.specs.Effects.{MayAsk}
use Rattle.names.proofs.NodeEffects.{asks-some}
use Rattle.names.proofs.asking.call_with.Goals as goal

pub returns : goal.returns
returns c = λ row o v.
    let u = subst (λ (q : std.Option (Entries Locals)). FindsParams row o q) c.in_ok-params.was v in
    subst (λ (r : std.Option Effect). MayAsk row o c.args.count c.args.words r) (sym c.then_some.ensures) (asks-some c.args.count c.args.words u.params u.is u.there c.len.ensures)
