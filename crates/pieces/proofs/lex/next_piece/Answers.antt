-- Proof of `next_piece`.
use Rattle.std.proofs.Common.{drop, sym, ap, ◌∙◌, subst}
use Rattle.std.proofs.lemmas.List.{take_rest, drop-drop}
use Rattle.pieces.specs.declared.piece.Piece.TheVariants.{Text}
use Rattle.pieces.specs.Cutting.{Cut}
use Rattle.pieces.proofs.Lexing.{cut_text, cut_single, cut_alone, cut_pair}
use Rattle.pieces.proofs.lex.next_piece.Goals as goal

pub returns-then-c-eq34 : goal.returns-then-c-eq34
returns-then-c-eq34 c =
    let r = c.in-Some.rest.now in
    let n = c.in-Some-text_len.n in
    let told = c.in-Some-text_len.ensures in
    subst (Cut c.args.text.now (Text c.split_at.result.0)) (sym (take_rest c.split_at.result.1.now 1))
    (cut_text c.skip_gap-body.ensures c.in-Some.first.now r c.in-Some.ensures.cases.0 c.split_at.result.0 n (drop 1 c.split_at.result.1.now) c.if-c-eq34.true told.0 c.split_at.ensures.front (ap (drop 1) c.split_at.ensures.back ∙ drop-drop 1 n r) told.1)

pub returns-then-not-begins_pair : goal.returns-then-not-begins_pair
returns-then-not-begins_pair c = cut_single c.skip_gap-body.ensures c.in-Some.first.now c.in-Some.rest.now c.in-Some.ensures.cases.0 c.if-c-eq34.false (sym c.if-is_word_byte.ensures) (sym c.if-not-begins_pair.ensures)

pub returns-then-joins_pair : goal.returns-then-joins_pair
returns-then-joins_pair c =
    let s = c.in-Some-split_first in
    cut_pair c.skip_gap-body.ensures c.in-Some.first.now c.in-Some.rest.now c.in-Some.ensures.cases.0 s.second.now s.behind.now c.if-c-eq34.false (sym c.if-is_word_byte.ensures) (sym c.if-not-begins_pair.ensures) s.ensures.cases.0 (sym c.if-joins_pair.ensures)

pub returns : goal.returns
returns c =
    let s = c.in-Some-split_first in
    cut_alone c.skip_gap-body.ensures c.in-Some.first.now c.in-Some.rest.now c.in-Some.ensures.cases.0 s.second.now s.behind.now c.if-c-eq34.false (sym c.if-is_word_byte.ensures) (sym c.if-not-begins_pair.ensures) s.ensures.cases.0 (sym c.if-joins_pair.ensures)
