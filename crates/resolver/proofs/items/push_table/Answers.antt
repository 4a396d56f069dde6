-- `push_table`: how many functions, and their numbers.
use Rattle.std.proofs.Common.{sym, ◌∙◌, arith}
use Rattle.language.specs.Syntax.{i_table}
use Rattle.limits.proofs.Places.{item_tail}
use Rattle.resolver.proofs.ItemLoops.{table-pushed, known_names, names-few}
use Rattle.resolver.proofs.Walking.{lent_none, lent-more, lent-pushed}
use Rattle.resolver.proofs.items.push_table.Goals as goal

pub returns : goal.returns
returns c = record {
  lent = lent-more (lent-pushed (lent_none c.args.out.now) c.push.ensures) c.push_numbers.ensures.lent;
  pushed = λ p f x xs so ok hf hi.
      let t = item_tail (omega arith) c.saturating_add.ensures c.past_name.ensures (i_table x xs) hi in
      let k = c.counted-names.ensures.left xs t in
      let en = c.len.ensures ∙ sym k.long in
      table-pushed p f xs en (c.word.ensures (omega (arith, en, names-few xs so.short t))) c.push.ensures (c.push_numbers.ensures.pushed p f xs so hf k (known_names p f x xs ok));
}
