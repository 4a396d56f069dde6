-- `find_own`: a function's own name, name by name.
use Rattle.std.proofs.Common.{sym, ◌∙◌, arith}
use Rattle.rows.specs.Trees.{local_row}
use Rattle.limits.specs.Entries.{Left}
use Rattle.limits.proofs.EntryLaws.{rest_by, rest_next}
use Rattle.limits.proofs.Places.{local_name}
use Rattle.names.proofs.OwnNames.{sought_word, sought_array, own_word, own_array}
use Rattle.names.proofs.own.find_own.Goals as goal

pub returns-then-here : goal.returns-then-here
returns-then-here c = λ ls k.
    rest_by (Left local_row) (c.loop-local.invariant ls k) c.in-Some.ensures.steps
    (λ l us h r v. own_word l us v (c.local_kind_at-kind.ensures l h) c.in-Word.is (c.if-here.ensures l.name (local_name (omega arith) c.saturating_add.ensures l h)))

pub loop-local-preserved-in-Word : goal.loop-local-preserved-in-Word
loop-local-preserved-in-Word c = λ ls k.
    rest_next (Left local_row) (c.loop-local.invariant ls k) c.in-Some.ensures.steps
    (λ l us h r v. sought_word l us v (sym (c.local_kind_at-kind.ensures l h) ∙ c.in-Word.is) (omega (arith, k.long)) c.saturating_add-words.ensures (c.if-here.ensures l.name (local_name (omega arith) c.saturating_add.ensures l h)))

pub returns-then-here-2 : goal.returns-then-here-2
returns-then-here-2 c = λ ls k.
    rest_by (Left local_row) (c.loop-local.invariant ls k) c.in-Some.ensures.steps
    (λ l us h r v. own_array l us v (c.local_kind_at-kind.ensures l h) c.in_default.not-Word (c.if-here-2.ensures l.name (local_name (omega arith) c.saturating_add.ensures l h)))

pub loop-local-preserved : goal.loop-local-preserved
loop-local-preserved c = λ ls k.
    rest_next (Left local_row) (c.loop-local.invariant ls k) c.in-Some.ensures.steps
    (λ l us h r v. sought_array l us v (λ e. c.in_default.not-Word (c.local_kind_at-kind.ensures l h ∙ e)) (omega (arith, k.long)) c.saturating_add-arrays.ensures (c.if-here-2.ensures l.name (local_name (omega arith) c.saturating_add.ensures l h)))
