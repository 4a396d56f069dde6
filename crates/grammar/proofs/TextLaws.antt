-- The laws of texts: one program by the parser's completeness, the others by the laws of the meaning, since a text's program is checked.
use mathlib.Core.Path.{◌≡◌, sym, ◌∙◌}
use mathlib.Core.List.{List}
use Rattle.language.specs.Syntax.{Name, Prog}
use Rattle.language.proofs.Safe
use Rattle.grammar.specs.Parse.{got}
use Rattle.grammar.specs.Laws.{OneProgram, NeverWrong, Further}
use Rattle.grammar.proofs.ItemComplete.{parse-complete}

got_same : (p q : Prog) {r : List Name} → got p r ≡ got q r → p ≡ q
got_same p q e = cc

pub one-program : OneProgram
one-program t p q x y = got_same p q (sym (parse-complete x.said) ∙ parse-complete y.said)

pub never-wrong : NeverWrong
never-wrong t p ins n r = Rattle.language.proofs.Safe.never-wrong p ins n r.sound

pub further : Further
further t p ins m n r = Rattle.language.proofs.Safe.further p ins m n r.sound
