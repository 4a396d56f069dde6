use Rattle.std.proofs.Common.{ℕ, ◌+◌, min, sym, ap, ◌∙◌, arith}
use Rattle.rows.proofs.NodeRows.{past_named, past_bare}
use Rattle.rows.proofs.read.past_node.Goals as goal

pub returns-then-has_name : goal.returns-then-has_name
returns-then-has_name c = λ t h. past_named t (omega arith) (c.tag_at-tag.ensures t h) (c.saturating_add-j.ensures ∙ ap (λ (n : ℕ). min (c.args.i + n) 18446744073709551615) c.lead.ensures) h (sym c.if-has_name.ensures) c.past_name.ensures

pub returns-else-has_name : goal.returns-else-has_name
returns-else-has_name c = λ t h. past_bare t (omega arith) (c.tag_at-tag.ensures t h) (c.saturating_add-j.ensures ∙ ap (λ (n : ℕ). min (c.args.i + n) 18446744073709551615) c.lead.ensures) h (sym c.if-has_name.ensures)
