-- The model parser of expressions, as a function of pieces: what a piece is, and a loop over operators between recursions into brackets.
-- Rests on Text for the words alone; that it agrees with Text's relations is proved, so nobody need believe it. Code is proved against it.
use Rattle.std.specs.Prelude.{◌&&◌, List, [], ◌∷◌, ℕ, zero, suc, length, codes, leb}
use Rattle.std.proofs.Math.Option.{Option, some, none}
use Rattle.language.specs.Syntax.{pick, opt, Name, same, Expr, num, var, bin, un, and1, or1, idx, len, call, by_table, input, Exprs, no, and_then}
use Rattle.grammar.specs.Text.{k_in, k_len, k_call, t_lp, t_rp, t_lb, t_rb, t_comma, is_name, decimal}

-- an operator between two: || and && have forms of their own in the tree
pub data Op : Type 0 where
  o_or : Op
  o_and : Op
  o_bin : ℕ → Op

abbrev pub join : Op → Expr → Expr → Expr
join o_or a b = or1 a b
join o_and a b = and1 a b
join (o_bin o) a b = bin o a b

-- an operator with how tightly it holds
pub record Tie : Type 0 where
  pub lvl : ℕ
  pub op : Op

-- what a piece is, as an expression sees it; a minus stands between two or before one
pub data Piece : Type 0 where
  p_num : ℕ → Piece
  p_name : Piece
  p_op : Tie → Piece
  p_minus : Piece
  p_before : ℕ → Piece
  p_lp : Piece
  p_rp : Piece
  p_lb : Piece
  p_comma : Piece
  p_len : Piece
  p_call : Piece
  p_in : Piece
  p_other : Piece

pub record Entry (A : Type 0) : Type 0 where
  pub key : Name
  pub val : A

abbrev pub find : {A : Type 0} → A → List (Entry A) → Name → A
find d [] w = d
find d (e ∷ es) w = pick (same w e.key) e.val (find d es w)

abbrev pub tie : ℕ → Op → Tie
tie l o = record { lvl = l; op = o }

abbrev pub entry : {A : Type 0} → Name → A → Entry A
entry k v = record { key = k; val = v }

abbrev pub fixed : List (Entry Piece)
fixed =
    entry t_lp p_lp ∷ entry t_rp p_rp ∷ entry t_lb p_lb ∷ entry t_comma p_comma
    ∷ entry k_len p_len ∷ entry k_call p_call ∷ entry k_in p_in
    ∷ entry (codes "-") p_minus ∷ entry (codes "!") (p_before 1) ∷ entry (codes "~") (p_before 2)
    ∷ entry (codes "||") (p_op (tie 0 o_or)) ∷ entry (codes "&&") (p_op (tie 1 o_and))
    ∷ entry (codes "+") (p_op (tie 6 (o_bin 0)))
    ∷ entry (codes "*") (p_op (tie 7 (o_bin 2))) ∷ entry (codes "/") (p_op (tie 7 (o_bin 3))) ∷ entry (codes "%") (p_op (tie 7 (o_bin 4)))
    ∷ entry (codes "==") (p_op (tie 2 (o_bin 5))) ∷ entry (codes "!=") (p_op (tie 2 (o_bin 6)))
    ∷ entry (codes "<") (p_op (tie 2 (o_bin 7))) ∷ entry (codes "<=") (p_op (tie 2 (o_bin 8)))
    ∷ entry (codes ">") (p_op (tie 2 (o_bin 9))) ∷ entry (codes ">=") (p_op (tie 2 (o_bin 10)))
    ∷ entry (codes "&") (p_op (tie 4 (o_bin 11)))
    ∷ entry (codes "|") (p_op (tie 3 (o_bin 12))) ∷ entry (codes "^") (p_op (tie 3 (o_bin 13)))
    ∷ entry (codes "<<") (p_op (tie 5 (o_bin 14))) ∷ entry (codes ">>") (p_op (tie 5 (o_bin 15))) ∷ []

abbrev pub num_of : Name → Option ℕ
num_of w = pick (leb 1 (length w) && leb (length w) 10) (decimal 0 w) none

unfoldable pub look : Name → Piece
look w = opt (num_of w) (pick (is_name w) p_name (find p_other fixed w)) p_num

-- as an operator between two
abbrev pub op_of : Piece → Option Tie
op_of (p_num n) = none
op_of p_name = none
op_of (p_op t) = some t
op_of p_minus = some (tie 6 (o_bin 1))
op_of (p_before o) = none
op_of p_lp = none
op_of p_rp = none
op_of p_lb = none
op_of p_comma = none
op_of p_len = none
op_of p_call = none
op_of p_in = none
op_of p_other = none

-- what a piece opens behind a name
pub data After : Type 0 where
  a_call : After
  a_index : After
  a_none : After

abbrev pub after : Piece → After
after (p_num n) = a_none
after p_name = a_none
after (p_op t) = a_none
after p_minus = a_none
after (p_before o) = a_none
after p_lp = a_call
after p_rp = a_none
after p_lb = a_index
after p_comma = a_none
after p_len = a_none
after p_call = a_none
after p_in = a_none
after p_other = a_none

-- how a list of arguments goes on
pub data Go : Type 0 where
  g_more : Go
  g_end : Go
  g_none : Go

abbrev pub go_on : Piece → Go
go_on (p_num n) = g_none
go_on p_name = g_none
go_on (p_op t) = g_none
go_on p_minus = g_none
go_on (p_before o) = g_none
go_on p_lp = g_none
go_on p_rp = g_end
go_on p_lb = g_none
go_on p_comma = g_more
go_on p_len = g_none
go_on p_call = g_none
go_on p_in = g_none
go_on p_other = g_none

-- a result with the pieces that are left
pub data Res (A : Type 0) : Type 0 where
  fail : Res A
  got : A → List Name → Res A

abbrev pub bind : {A C : Type 0} → Res A → (A → List Name → Res C) → Res C
bind fail k = fail
bind (got a r) k = k a r

abbrev pub eat : {C : Type 0} → Name → List Name → (List Name → Res C) → Res C
eat w [] k = fail
eat w (x ∷ r) k = pick (same x w) (k r) fail

abbrev pub eat_name : {C : Type 0} → List Name → (Name → List Name → Res C) → Res C
eat_name [] k = fail
eat_name (x ∷ r) k = pick (is_name x) (k x r) fail

-- the reader's calls of itself: one with its signs before; a chain behind a first operand, down to a tightness; the arguments behind one
pub record Fns : Type 0 where
  pub one : List Name → Res Expr
  pub chain : ℕ → Expr → List Name → Res Expr
  pub args : List Name → Res Exprs

module _ (R : Fns) where
  abbrev pub climb : ℕ → List Name → Res Expr
  climb n s = bind (R.one s) (R.chain n)

  abbrev pub behind : Expr → List Name → Res Exprs
  behind e r = bind (R.args r) (λ es r'. got (and_then e es) r')

  abbrev pub args_by : Go → List Name → List Name → Res Exprs
  args_by g_more w s = bind (climb 0 w) behind
  args_by g_end w s = got no s
  args_by g_none w s = bind (climb 0 w) behind

  abbrev pub args_of : List Name → Res Exprs
  args_of [] = fail
  args_of (w ∷ s) = args_by (go_on (look w)) (w ∷ s) s

  abbrev pub next_by : Go → List Name → Res Exprs
  next_by g_more s = bind (climb 0 s) behind
  next_by g_end s = got no s
  next_by g_none s = fail

  abbrev pub next_arg : List Name → Res Exprs
  next_arg [] = fail
  next_arg (w ∷ s) = next_by (go_on (look w)) s

  abbrev pub named : Name → After → List Name → List Name → Res Expr
  named x a_call w s = bind (args_of s) (λ es r. got (call x es) r)
  named x a_index w s = bind (climb 0 s) (λ e r. eat t_rb r (λ r'. got (idx x e) r'))
  named x a_none w s = got (var x) w

  abbrev pub name : Name → List Name → Res Expr
  name x [] = got (var x) []
  name x (w ∷ s) = named x (after (look w)) (w ∷ s) s

  abbrev pub signed : ℕ → List Name → Res Expr
  signed o s = bind (R.one s) (λ e r. got (un o e) r)

  abbrev pub start : Name → Piece → List Name → Res Expr
  start w (p_num n) s = got (num n) s
  start w p_name s = name w s
  start w (p_op t) s = fail
  start w p_minus s = signed 0 s
  start w (p_before o) s = signed o s
  start w p_lp s = bind (climb 0 s) (λ e r. eat t_rp r (λ r'. got e r'))
  start w p_rp s = fail
  start w p_lb s = fail
  start w p_comma s = fail
  start w p_len s = eat t_lp s (λ s₁. eat_name s₁ (λ x s₂. eat t_rp s₂ (λ s₃. got (len x) s₃)))
  start w p_call s =
      eat_name s (λ x s₁. eat t_lb s₁ (λ s₂. bind (climb 0 s₂) (λ e r. eat t_rb r (λ r₁. eat t_lp r₁ (λ r₂.
      bind (args_of r₂) (λ es r₃. got (by_table x e es) r₃))))))
  start w p_in s = eat t_lp s (λ s₁. eat t_rp s₁ (λ s₂. got input s₂))
  start w p_other s = fail

  abbrev pub one_step : List Name → Res Expr
  one_step [] = fail
  one_step (w ∷ s) = start w (look w) s

  abbrev pub chain_by : ℕ → Expr → List Name → List Name → Option Tie → Res Expr
  chain_by n a w s none = got a w
  chain_by n a w s (some t) = pick (leb n t.lvl) (bind (climb (suc t.lvl) s) (λ b r. R.chain n (join t.op a b) r)) (got a w)

  abbrev pub chain_step : ℕ → Expr → List Name → Res Expr
  chain_step n a [] = got a []
  chain_step n a (w ∷ s) = chain_by n a (w ∷ s) s (op_of (look w))

abbrev pub step : Fns → Fns
step R = record { one = one_step R; chain = chain_step R; args = next_arg R }

abbrev pub stop : ℕ → Expr → List Name → Res Expr
stop n a [] = got a []
stop n a (w ∷ s) = fail

-- for as many pieces
unfoldable pub up_to : ℕ → Fns
up_to zero = record { one = λ s. fail; chain = stop; args = λ s. fail }
up_to (suc f) = step (up_to f)

unfoldable pub reader : Fns
reader = record { one = λ s. (up_to (length s)).one s; chain = λ n a s. (up_to (length s)).chain n a s; args = λ s. (up_to (length s)).args s }
