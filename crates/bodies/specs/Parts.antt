-- Parts of the model parser's steps, as the code of statements is cut.
use Rattle.std.specs.Prelude.{List, [], ◌∷◌}
use Rattle.language.specs.Syntax.{pick, Name, same, Expr, Stmt, Block, end}
use Rattle.grammar.specs.Text.{t_semi, t_rb, k_else}
use Rattle.grammar.specs.Parse.{Res, got, bind, eat}
use Rattle.grammar.specs.ParseAll.{expr, store_or, block, body}

abbrev pub ex_end : List Name → Res Expr
ex_end s = bind (expr s) (λ e r. eat t_semi r (λ r'. got e r'))

abbrev pub semi : List Name → Res (Unit {0})
semi s = eat t_semi s (λ r. got tt r)

abbrev pub index_st : Name → List Name → Res Stmt
index_st x s = bind (expr s) (λ i r. eat t_rb r (λ r₁. store_or x i r₁))

abbrev pub else_b : List Name → Res Block
else_b [] = got end []
else_b (w ∷ s) = pick (same w k_else) (block body s) (got end (w ∷ s))
