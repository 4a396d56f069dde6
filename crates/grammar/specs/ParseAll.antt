-- The model parser of statements, items and files. Rests on Parse; that it agrees with Text's relations is proved (Reading has the laws).
-- The equations that code is proved against stand in specs/Equations, their proofs in proofs/Equations: of expressions `reader-fixed`
-- (proofs/ExprFuel), of the others `body_is`, `pars-is`, `arrs-is`, `items-is`, `files-is`, each by `again_is` (proofs/Unrolling).
use Rattle.std.specs.Prelude.{Bool, true, false, List, [], ◌∷◌, ℕ, zero, suc, length, eqb}
use Rattle.std.proofs.Math.Option.{Option, some, none}
use Rattle.language.specs.Syntax.{pick, opt, Name, same, Expr, idx, Stmt, set1, store1, ex1, out1, if1, while1, ret1, break1, next1, Block, end, seq1, Kind, k_word, k_arr, Param, Arr, Item, i_word, i_arr, i_data, i_table, i_fn, i_use, Prog}
use Rattle.grammar.specs.Text.{k_file, k_use, k_var, k_array, k_bytes, k_table, k_fn, k_if, k_else, k_while, k_return, k_break, k_continue, k_out, t_lp, t_rp, t_lb, t_rb, t_lc, t_rc, t_comma, t_semi, t_colon, t_gets, is_name}
use Rattle.grammar.specs.Parse.{Entry, entry, find, num_of, Res, fail, got, bind, eat, eat_name, climb, reader}

-- a step that calls itself on fewer pieces, as often as it takes
unfoldable pub up_to_f : {A : Type 0} → ((List Name → Res A) → List Name → Res A) → ℕ → List Name → Res A
up_to_f st zero s = fail
up_to_f st (suc f) s = st (up_to_f st f) s

unfoldable pub again : {A : Type 0} → ((List Name → Res A) → List Name → Res A) → List Name → Res A
again st s = up_to_f st (suc (length s)) s

abbrev pub expr : List Name → Res Expr
expr s = climb reader 0 s

abbrev pub ex_semi : (Expr → Stmt) → List Name → Res Stmt
ex_semi c s = bind (expr s) (λ e r. eat t_semi r (λ r'. got (c e) r'))

-- how a statement begins
pub data Lead : Type 0 where
  l_out : Lead
  l_if : Lead
  l_while : Lead
  l_return : Lead
  l_break : Lead
  l_next : Lead
  l_name : Lead
  l_other : Lead

abbrev pub leads : List (Entry Lead)
leads = entry k_out l_out ∷ entry k_if l_if ∷ entry k_while l_while ∷ entry k_return l_return ∷ entry k_break l_break ∷ entry k_continue l_next ∷ []

unfoldable pub lead : Name → Lead
lead w = pick (is_name w) l_name (find l_other leads w)

-- behind a name and an index in brackets
abbrev pub store_or : Name → Expr → List Name → Res Stmt
store_or x i [] = fail
store_or x i (w ∷ s) = pick (same w t_gets) (ex_semi (store1 x i) s) (bind (reader.chain 0 (idx x i) (w ∷ s)) (λ e r. eat t_semi r (λ r'. got (ex1 e) r')))

abbrev pub name_st : Name → List Name → Res Stmt
name_st x [] = fail
name_st x (w ∷ s) =
    pick (same w t_gets) (ex_semi (set1 x) s)
    (pick (same w t_lb) (bind (expr s) (λ i r. eat t_rb r (λ r₁. store_or x i r₁)))
    (ex_semi ex1 (x ∷ w ∷ s)))

module _ (G : List Name → Res Block) where
  abbrev pub block : List Name → Res Block
  block s = eat t_lc s G

  abbrev pub else_of : Expr → Block → List Name → Res Stmt
  else_of e b [] = got (if1 e b end) []
  else_of e b (w ∷ s) = pick (same w k_else) (bind (block s) (λ c r. got (if1 e b c) r)) (got (if1 e b end) (w ∷ s))

  abbrev pub st_by : Lead → Name → List Name → Res Stmt
  st_by l_out w s = ex_semi out1 s
  st_by l_if w s = bind (expr s) (λ e r. bind (block r) (λ b r₁. else_of e b r₁))
  st_by l_while w s = bind (expr s) (λ e r. bind (block r) (λ b r₁. got (while1 e b) r₁))
  st_by l_return w s = ex_semi ret1 s
  st_by l_break w s = eat t_semi s (λ r. got break1 r)
  st_by l_next w s = eat t_semi s (λ r. got next1 r)
  st_by l_name w s = name_st w s
  st_by l_other w s = ex_semi ex1 (w ∷ s)

  abbrev pub stmt : List Name → Res Stmt
  stmt [] = fail
  stmt (w ∷ s) = st_by (lead w) w s

  -- up to the bracket that shuts a body, and that one
  abbrev pub body_step : List Name → Res Block
  body_step [] = fail
  body_step (w ∷ s) = pick (same w t_rc) (got end s) (bind (stmt (w ∷ s)) (λ a r. bind (G r) (λ b r'. got (seq1 a b) r')))

abbrev pub body : List Name → Res Block
body = again body_step

-- names, and numbers, up to a semicolon and that one
abbrev pub names_in : List Name → Res (List Name)
names_in [] = fail
names_in (x ∷ []) = fail
names_in (x ∷ w ∷ s) = pick (is_name x) (pick (same w t_comma) (bind (names_in s) (λ xs r. got (x ∷ xs) r)) (pick (same w t_semi) (got (x ∷ []) s) fail)) fail

abbrev pub eat_num : {C : Type 0} → List Name → (ℕ → List Name → Res C) → Res C
eat_num [] k = fail
eat_num (w ∷ s) k = opt (num_of w) fail (λ n. k n s)

abbrev pub nums_in : List Name → Res (List ℕ)
nums_in [] = fail
nums_in (x ∷ []) = fail
nums_in (x ∷ w ∷ s) = opt (num_of x) fail (λ n. pick (same w t_comma) (bind (nums_in s) (λ ns r. got (n ∷ ns) r)) (pick (same w t_semi) (got (n ∷ []) s) fail))

-- parameters
abbrev pub par_in : List Name → Res Kind
par_in [] = fail
par_in (w ∷ s) = pick (same w t_rb) (got (k_arr true) s) (pick (same w t_colon) (eat t_rb s (λ r. got (k_arr false) r)) fail)

abbrev pub par_kind : List Name → Res Kind
par_kind [] = got k_word []
par_kind (w ∷ s) = pick (same w t_lb) (par_in s) (got k_word (w ∷ s))

abbrev pub par : List Name → Res Param
par s = eat_name s (λ x r. bind (par_kind r) (λ k r'. got (record { name = x; kind = k }) r'))

module _ (G : List Name → Res (List Param)) where
  abbrev pub pars_more : Param → List Name → Res (List Param)
  pars_more q [] = fail
  pars_more q (w ∷ s) = pick (same w t_comma) (bind (G s) (λ qs r. got (q ∷ qs) r)) (pick (same w t_rp) (got (q ∷ []) s) fail)

  abbrev pub pars_step : List Name → Res (List Param)
  pars_step s = bind (par s) pars_more

abbrev pub pars_of : List Name → Res (List Param)
pars_of [] = fail
pars_of (w ∷ s) = pick (same w t_rp) (got [] s) (again pars_step (w ∷ s))

-- what stands first in a function
abbrev pub vars_in : List Name → Res (List Name)
vars_in [] = got [] []
vars_in (w ∷ s) = pick (same w k_var) (names_in s) (got [] (w ∷ s))

abbrev pub size : {C : Type 0} → List Name → (ℕ → List Name → Res C) → Res C
size s k = eat t_lb s (λ s₂. eat_num s₂ (λ n s₃. eat t_rb s₃ (λ s₄. eat t_semi s₄ (λ s₅. k n s₅))))

abbrev pub arr : Bool → List Name → Res Arr
arr b s = eat_name s (λ x s₁. size s₁ (λ n r. got (record { name = x; wide = b; size = n }) r))

module _ (G : List Name → Res (List Arr)) where
  abbrev pub arrs_as : Bool → List Name → Res (List Arr)
  arrs_as b s = bind (arr b s) (λ a r. bind (G r) (λ as₁ r'. got (a ∷ as₁) r'))

  abbrev pub arrs_step : List Name → Res (List Arr)
  arrs_step [] = got [] []
  arrs_step (w ∷ s) = pick (same w k_array) (arrs_as true s) (pick (same w k_bytes) (arrs_as false s) (got [] (w ∷ s)))

-- items
pub data Head : Type 0 where
  h_var : Head
  h_array : Head
  h_bytes : Head
  h_table : Head
  h_use : Head
  h_fn : Head
  h_none : Head

abbrev pub heads : List (Entry Head)
heads = entry k_var h_var ∷ entry k_array h_array ∷ entry k_bytes h_bytes ∷ entry k_table h_table ∷ entry k_use h_use ∷ entry k_fn h_fn ∷ []

unfoldable pub head_of : Name → Head
head_of w = find h_none heads w

abbrev pub in_quotes : Name → Option (List ℕ)
in_quotes [] = none
in_quotes (c ∷ cs) = pick (eqb c 34) (some cs) none

abbrev pub text_to : Name → List Name → Res Item
text_to x [] = fail
text_to x (q ∷ s) = opt (in_quotes q) fail (λ ns. eat t_semi s (λ r. got (i_data false x ns) r))

abbrev pub array_it : Name → List Name → Res Item
array_it x [] = fail
array_it x (w ∷ s) =
    pick (same w t_gets)
    (bind (nums_in s) (λ ns r. got (i_data true x ns) r))
    (size (w ∷ s) (λ n r. got (i_arr (record { name = x; wide = true; size = n })) r))

abbrev pub bytes_it : Name → List Name → Res Item
bytes_it x [] = fail
bytes_it x (w ∷ s) = pick (same w t_gets) (text_to x s) (size (w ∷ s) (λ n r. got (i_arr (record { name = x; wide = false; size = n })) r))

abbrev pub fn_it : Name → List Name → Res Item
fn_it x s =
    eat t_lp s (λ s₁. bind (pars_of s₁) (λ qs s₂. eat t_lc s₂ (λ s₃.
    bind (vars_in s₃) (λ xs s₄. bind (again arrs_step s₄) (λ as₁ s₅. bind (body s₅) (λ b r.
    got (i_fn (record { name = x; params = qs; vars = xs; arrs = as₁; body = b })) r))))))

abbrev pub it_by : Head → List Name → Res Item
it_by h_var s = eat_name s (λ x s₁. eat t_semi s₁ (λ r. got (i_word x) r))
it_by h_array s = eat_name s array_it
it_by h_bytes s = eat_name s bytes_it
it_by h_table s = eat_name s (λ x s₁. eat t_gets s₁ (λ s₂. bind (names_in s₂) (λ fs r. got (i_table x fs) r)))
it_by h_use s = eat_name s (λ x s₁. eat t_colon s₁ (λ s₂. bind (names_in s₂) (λ ys r. got (i_use x ys) r)))
it_by h_fn s = eat_name s fn_it
it_by h_none s = fail

abbrev pub item : List Name → Res Item
item [] = fail
item (w ∷ s) = it_by (head_of w) s

abbrev pub items_step : (List Name → Res (List Item)) → List Name → Res (List Item)
items_step G [] = got [] []
items_step G (w ∷ s) = pick (same w k_file) (got [] (w ∷ s)) (bind (item (w ∷ s)) (λ i r. bind (G r) (λ is r'. got (i ∷ is) r')))

abbrev pub files_step : (List Name → Res Prog) → List Name → Res Prog
files_step G [] = got [] []
files_step G (w ∷ s) =
    pick (same w k_file)
    (eat_name s (λ x s₁. eat t_semi s₁ (λ s₂. bind (again items_step s₂) (λ is r. bind (G r) (λ fs r'. got (record { name = x; items = is } ∷ fs) r')))))
    fail

unfoldable pub parse : List Name → Res Prog
parse s = again files_step s
