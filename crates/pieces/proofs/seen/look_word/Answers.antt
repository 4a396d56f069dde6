-- Proof of `look_word`.
use Rattle.std.proofs.Common.{refl}
use Rattle.pieces.specs.declared.seen.Look.TheVariants.{Len, Call, In}
use Rattle.pieces.proofs.Looking.{word_at, word-other, looks_num, looks_name}
use Rattle.pieces.proofs.Naming.{same-told}
use Rattle.pieces.proofs.seen.look_word.Goals as goal

pub returns-in-Some : goal.returns-in-Some
returns-in-Some c = looks_num c.args.w.now c.in-Some.n c.in-Some.ensures.0 c.in-Some.ensures.1

pub returns-then-is_name : goal.returns-then-is_name
returns-then-is_name c = looks_name c.args.w c.if-is_name.ensures

pub returns-then-eq : goal.returns-then-eq
returns-then-eq c = word_at c.args.w.now _ Len c.if-eq.ensures refl refl refl tt

pub returns-then-eq-2 : goal.returns-then-eq-2
returns-then-eq-2 c = word_at c.args.w.now _ Call c.if-eq-2.ensures refl refl refl tt

pub returns-then-eq-3 : goal.returns-then-eq-3
returns-then-eq-3 c = word_at c.args.w.now _ In c.if-eq-3.ensures refl refl refl tt

pub returns : goal.returns
returns c =
    let w = c.args.w.now in
    word-other w c.requires c.in_default.ensures c.if-is_name.ensures (rw (same-told w _ c.if-eq.ensures, same-told w _ c.if-eq-2.ensures, same-told w _ c.if-eq-3.ensures))
