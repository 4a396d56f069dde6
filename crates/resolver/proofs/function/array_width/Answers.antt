-- `array_width`: by the kind of an own array.
use Rattle.std.proofs.Common.{sym, ◌∙◌}
use Rattle.rows.specs.Trees.{of_array}
use Rattle.resolver.proofs.Locals.{wide-bit, narrow-bit}
use Rattle.resolver.proofs.function.array_width.Goals as goal

pub returns-in-Words : goal.returns-in-Words
returns-in-Words c = λ b h. wide-bit b.wide (sym (c.local_kind_at.ensures (of_array b) h) ∙ c.in-Words.is)

pub returns-in_default : goal.returns-in_default
returns-in_default c = λ b h. narrow-bit b.wide (λ e. c.in_default.not-Words (c.local_kind_at.ensures (of_array b) h ∙ e))
