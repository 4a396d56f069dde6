-- `check_item`: what an item refers to, by its kind.
use Rattle.std.proofs.Common.{◌≡◌, Bool, not, ◌&&◌, ap₂, arith}
use Rattle.language.specs.Syntax.{i_table, i_use}
use Rattle.rows.specs.declared.kind.ItemKind.TheVariants.{Table, Function, Use}
use Rattle.limits.proofs.Places.{by_kind, item_name, item_tail}
use Rattle.names.specs.Resolved.{item_resolved}
use Rattle.names.proofs.file.File.check_item.Goals as goal

pub returns-in-Table : goal.returns-in-Table
returns-in-Table c = λ p f i hf h.
    by_kind Table (λ i. c.check_table.result ≡ item_resolved p f i) c.item_kind_at.ensures c.in-Table.is (λ y xs k. c.check_table.ensures p f xs hf (item_tail (omega arith) c.saturating_add-name.ensures c.past_name-rest.ensures (i_table y xs) k)) i h

pub returns-in-Function : goal.returns-in-Function
returns-in-Function c = λ p f i hf h. by_kind Function (λ i. c.check_body.result ≡ item_resolved p f i) c.item_kind_at.ensures c.in-Function.is (λ g k. c.check_body.ensures p f g (record { file = hf; item = k })) i h

pub returns-in-Use : goal.returns-in-Use
returns-in-Use c = λ p f i hf h.
    by_kind Use (λ i. (not c.same_at.result && c.are_there.result) ≡ item_resolved p f i) c.item_kind_at.ensures c.in-Use.is
    (λ y xs k. let n = item_name (omega arith) c.saturating_add-name.ensures (i_use y xs) k in
    ap₂ (λ (a b : Bool). not a && b) (c.same_at.ensures y f n hf.name) (c.are_there.ensures p y xs (record { row = hf.row; name = n }) (item_tail (omega arith) c.saturating_add-name.ensures c.past_name-rest.ensures (i_use y xs) k)))
    i h
