-- Proof of `text_len`.
use Rattle.std.proofs.Common.{rules, tests}
use Rattle.std.proofs.lemmas.Iterator.{YieldsList-from_slice}
use Rattle.std.proofs.lemmas.Iterator.Search.{position_from_yields_List}
use Rattle.pieces.proofs.Lexing.{quote, quoted-is}
use Rattle.pieces.proofs.lex.text_len.Goals as goal

pub returns : goal.returns
returns c = quoted-is c.args.text.now c.position.result (position_from_yields_List quote _ _ c.position.result c.position.ensures.ran (YieldsList-from_slice c.args.text.now cc) (λ x b q k. search (rules, tests)))
