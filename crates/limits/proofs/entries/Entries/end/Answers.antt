-- `Entries::end`: the place behind entries, one by one.
use Rattle.std.proofs.Common.{refl, arith}
use Rattle.limits.proofs.EntryLaws.{ahead_next, ahead_none, in_lent}
use Rattle.limits.proofs.entries.Entries.end.Goals as goal

pub loop-init : goal.loop-init
loop-init g c = λ ts k. record { ts = ts; here = k.here; long = omega (arith, k.long); ends = refl }

pub loop-preserved : goal.loop-preserved
loop-preserved g c = λ ts k. ahead_next (c.loop.invariant ts k) (omega arith) c.past-here.ensures

pub returns : goal.returns
returns g c = λ w ts k. ahead_none (c.loop.invariant ts (in_lent k)) (omega arith)
