use Rattle.std.proofs.Common.{sym, refl, ◌∙◌, rules}
use Rattle.assembler.proofs.Whole.{code-written}
use Rattle.assembler.proofs.imaging.write_code.Goals as goal

pub returns : goal.returns
returns c m g k e =
    let (same, is) = code-written g k refl e c.word_at.ensures c.begin.ensures (c.functions.ensures m) in
    let s = sym same in
    search rules ∙ is
