-- `is_plain`: what was found, counted.
use Rattle.std.proofs.Common.{subst}
use Rattle.std.specs.declared.option.Option as std
use Rattle.limits.specs.declared.entries.Entries.{Entries}
use Rattle.limits.specs.declared.entries.Locals.{Locals}
use Rattle.names.specs.Kinds.{FindsParams}
use Rattle.names.proofs.Referring.{plain-some, plain-none}
use Rattle.names.proofs.items.is_plain.Goals as goal

pub returns-in-Some : goal.returns-in-Some
returns-in-Some c = λ row o v. plain-some c.len.ensures (subst (λ (q : std.Option (Entries Locals)). FindsParams row o q) c.in-Some.is v)

pub returns-in-None : goal.returns-in-None
returns-in-None c = λ row o v. plain-none (subst (λ (q : std.Option (Entries Locals)). FindsParams row o q) c.in-None.is v)
