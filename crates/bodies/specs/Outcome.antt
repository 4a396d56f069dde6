-- What parsing code answers, against the model parser: which tree was read, that its row was written, how much of the text and of the
-- row's room that took. Rests on the model (grammar) and on the rows of trees (rows); the contracts of bodies and parser cite it.
use Rattle.std.specs.Prelude.{◌≡◌, ℕ, ◌+◌, ◌-◌, ◌*◌, ◌≤◌, true, false, List, [], ◌∷◌, ◌++◌, length, Result, MatchResult}
use Rattle.std.specs.Borrow.{Bor}
use Rattle.language.specs.Syntax.{Expr, Exprs}
use Rattle.grammar.specs.Text.{pieces, gap}
use Rattle.grammar.specs.Parse.{reader, Res, fail, got, Op, o_or, o_and, o_bin}
use Rattle.rows.specs.declared.row.Row.{Row}
use Rattle.rows.specs.Row.{Wrote}
use Rattle.rows.specs.Nodes.{count, expr_row, args_row}
use Rattle.pieces.specs.declared.refused.Refused.{Refused}

-- room enough: four words for each byte that is left, and d more; and a text as short as it must be
pub record Ready (d : ℕ) (s : List ℕ) (o : Row) : Type 0 where
  pub room : o.len + 4 * length s + d ≤ length o.words.now
  pub short : length s ≤ 32768

-- no more than that was written, up to r
pub record Spent (d : ℕ) (s r : List ℕ) (o p : Row) : Type 0 where
  pub less : length r ≤ length s
  pub spent : p.len + 4 * length r ≤ o.len + 4 * length s + d

-- what code answers that does as m says: from the text s on, up to r, with the row o, then p
pub record Did {A : Type 0} (d : ℕ) (m : Res A) (row : A → List ℕ) (s r : List ℕ) (o p : Row) : Type 0 where
  pub tree : A
  pub is : m ≡ got tree (pieces gap r)
  pub wrote : Wrote o p (row tree)
  pub within : Spent d s r o p
  -- with no words in hand, a piece at least is behind it
  pub on : length r + (1 - d) ≤ length s

abbrev pub Parsed : {A : Type 0} → ℕ → Res A → (A → List ℕ) → List ℕ → Row → Row → Result (Bor (List ℕ)) Refused → Type 0
Parsed d m row s o p r = MatchResult r (λ rest. Did d m row s rest.now o p) (λ e. m ≡ fail)

-- of arguments, with how many they are
pub record DidArgs (m : Res Exprs) (s r : List ℕ) (k : ℕ) (o p : Row) : Type 0 where
  pub did : Did 0 m args_row s r o p
  pub num : count did.tree ≡ k

abbrev pub ParsedArgs : Res Exprs → List ℕ → Row → Row → Result (ℕ × Bor (List ℕ)) Refused → Type 0
ParsedArgs m s o p r = MatchResult r (λ q. DidArgs m s q.1.now q.0 o p) (λ e. m ≡ fail)

-- of a chain of operators behind any operand
pub record Chains (n : ℕ) (s r : List ℕ) (o p : Row) : Type 0 where
  pub words : List ℕ
  pub tree : Expr → Expr
  pub is : (a : Expr) → reader.chain n a (pieces gap s) ≡ got (tree a) (pieces gap r)
  pub row : (a : Expr) → expr_row false (tree a) ≡ expr_row false a ++ words
  pub wrote : Wrote o p words
  pub within : Spent 0 s r o p

abbrev pub ParsedChain : ℕ → List ℕ → Row → Row → Result (Bor (List ℕ)) Refused → Type 0
ParsedChain n s o p r = MatchResult r (λ rest. Chains n s rest.now o p) (λ e. (a : Expr) → reader.chain n a (pieces gap s) ≡ fail)

-- what an operator writes between its operands, and behind them
abbrev pub mid : Op → List ℕ
mid o_or = 4 ∷ []
mid o_and = 3 ∷ []
mid (o_bin o) = []

abbrev pub post : Op → List ℕ
post o_or = 5 ∷ []
post o_and = 5 ∷ []
post (o_bin o) = 2 ∷ o ∷ []

-- an expression's row that was written from a place on has become an argument's
abbrev pub Marked : ℕ → Row → Row → Type 0
Marked at p q = (o : Row) (e : Expr) → o.len ≡ at → Wrote o p (expr_row false e) → Wrote o q (expr_row true e)
