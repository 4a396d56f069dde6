-- Proof of `word_len`.
use Rattle.std.proofs.Common.{◌≡◌, ℕ, ◌+◌, ◌-◌, List, length, take, drop, sym, ap, ◌∙◌, arith, rules, tests}
use Rattle.std.specs.List.{prefix_len}
use Rattle.std.proofs.lemmas.Iterator.{YieldsList-from_slice}
use Rattle.std.proofs.lemmas.Iterator.Consumers.{count_from_yields_List}
use Rattle.std.proofs.lemmas.Iterator.Search.{YieldsList-from_take_while}
use Rattle.std.proofs.lemmas.List.{take_rest}
use Rattle.std.proofs.lemmas.List.Folds.{length-prefix_len}
use Rattle.std.proofs.lemmas.List.Sums.{prefix_len-le-length, prefix_len-drop_yes}
use Rattle.grammar.specs.Text.{word_byte}
use Rattle.pieces.proofs.Lexing.{word_run, word_whole}
use Rattle.pieces.proofs.lex.word_len.Goals as goal

pub returns : goal.returns
returns c =
    let s = c.args.text.now in
    let tail : List ℕ = take (length s - 1) (drop 1 s) in
    let counted = count_from_yields_List c.take_while.result _ c.count.ensures.ran (YieldsList-from_take_while _ word_byte (YieldsList-from_slice tail cc) c.take_while.ensures.closure c.take_while.ensures.done (λ x b q k. search (rules, tests))) ∙ length-prefix_len word_byte tail ∙ ap (prefix_len word_byte) (take_rest s 1) in
    let first : prefix_len word_byte s ≡ 1 + prefix_len word_byte (drop 1 s) = prefix_len-drop_yes word_byte s 0 0 c.requires.some c.requires.first in
    let n : 1 + c.count.result ≡ prefix_len word_byte s = ap (λ k. 1 + k) counted ∙ sym first in
    rw n (record { some = omega arith; all = (word_run s (prefix_len word_byte s) (omega arith)).0; within = prefix_len-le-length word_byte s; is = word_whole s })
