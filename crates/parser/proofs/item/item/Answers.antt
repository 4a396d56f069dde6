-- Proof of `item`.
use Rattle.grammar.specs.Text.{pieces, gap, k_var, k_array, k_bytes, k_table, k_use, k_fn}
use Rattle.grammar.specs.ParseAll.{h_var, h_array, h_bytes, h_table, h_use, h_fn}
use Rattle.parser.proofs.Items.{by-head, head-var, head-array, head_bytes, head-table, head_use, head_fn, no-head}
use Rattle.parser.proofs.item.item.Goals as goal

pub returns-in-Some : goal.returns-in-Some
returns-in-Some c = by-head c.args.out.now c.word_item.new.out k_var h_var c.word_item.result head-var c.in-Some.ensures c.word_item.ensures

pub returns-in-Some-eat_word : goal.returns-in-Some-eat_word
returns-in-Some-eat_word c = by-head c.args.out.now c.array_item.new.out k_array h_array c.array_item.result head-array c.in-Some-eat_word.ensures c.array_item.ensures

pub returns-in-Some-eat_word-2 : goal.returns-in-Some-eat_word-2
returns-in-Some-eat_word-2 c = by-head c.args.out.now c.array_item-in-Some-eat_word-2.new.out k_bytes h_bytes c.array_item-in-Some-eat_word-2.result head_bytes c.in-Some-eat_word-2.ensures c.array_item-in-Some-eat_word-2.ensures

pub returns-in-Some-eat_word-3 : goal.returns-in-Some-eat_word-3
returns-in-Some-eat_word-3 c = by-head c.args.out.now c.table_item.new.out k_table h_table c.table_item.result head-table c.in-Some-eat_word-3.ensures c.table_item.ensures

pub returns-in-Some-eat_word-4 : goal.returns-in-Some-eat_word-4
returns-in-Some-eat_word-4 c = by-head c.args.out.now c.use_item.new.out k_use h_use c.use_item.result head_use c.in-Some-eat_word-4.ensures c.use_item.ensures

pub returns-in_default-eat_word-5 : goal.returns-in_default-eat_word-5
returns-in_default-eat_word-5 c = no-head (pieces gap c.args.text.now) c.in_default.ensures c.in_default-eat_word.ensures c.in_default-eat_word-2.ensures c.in_default-eat_word-3.ensures c.in_default-eat_word-4.ensures c.in_default-eat_word-5.ensures

pub returns : goal.returns
returns c = by-head c.args.out.now c.function.new.out k_fn h_fn c.function.result head_fn c.in-Some-eat_word-5.ensures c.function.ensures
