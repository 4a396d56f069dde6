-- `table_at`: the first of a table's functions.
use Rattle.std.proofs.Common.{◌∙◌, arith}
use Rattle.language.specs.Syntax.{i_table}
use Rattle.rows.specs.declared.kind.ItemKind.TheVariants.{Table}
use Rattle.limits.proofs.Places.{by_kind, item_tail}
use Rattle.names.specs.Kinds.{item_table, FindsParams}
use Rattle.names.proofs.NameKinds.{table_none}
use Rattle.names.proofs.file.File.table_at.Goals as goal

pub returns-in-Table : goal.returns-in-Table
returns-in-Table c = λ p f i hf h.
    by_kind Table (λ i. FindsParams c.args.self.row.now (item_table p f i) c.params_first.result) c.item_kind_at.ensures c.in-Table.is (λ y fs k. c.params_first.ensures p f fs hf (item_tail (omega arith) c.saturating_add.ensures c.past_name.ensures (i_table y fs) k)) i h

pub returns-in_default : goal.returns-in_default
returns-in_default c = λ p f i hf h. table_none p f i (λ q. c.in_default.not-Table (c.item_kind_at.ensures i h ∙ q))
