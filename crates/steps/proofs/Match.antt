-- The statement: what a task means, its steps do.
use Rattle.std.proofs.Common.{◌≡◌, ℕ, suc, ◌+◌, ◌-◌, ◌<◌, ◌≤◌, Bool, true, false, List, [], ◌∷◌, ◌++◌, length, refl, ap, ◌∙◌, arith}
use mathlib.Core.Option.{some, none}
use Rattle.language.specs.Syntax.{nth, Name, Expr, num, var, bin, un, and1, or1, idx, len, call, by_table, input, Exprs, no, and_then, Stmt, set1, store1, ex1, out1, if1, while1, ret1, break1, next1, Block, end, seq1, Kind, k_word, k_arr, Fn, Prog}
use Rattle.language.specs.Meaning.{on_val, on_vals, State, Result, val, vals, fine, broke, goes_on, gives, Value, word, array, Cells, new_arrs, get_var, get_arr, Top, resolve, as_word, as_arr, as_fn, as_table, cost, enter, t_e, t_es, t_s, t_b, t_call, run}
use Rattle.language.specs.Words.{all}
use Rattle.steps.specs.Steps.{Opnd, o_top, o_own, s_ret, Act, MFn, MProg, Places, upd, Saved, entry, args, arr_at, arrs_at, upto}
use Rattle.steps.specs.Generate.{Scope, r_word, r_arr, find, words_of, arrays_of, slots_from, slots_of, shapes_of, is_wide, gen_arr, wide_of, arr_arg, opnds, count, size_e, size_es, size_s, size_b, gen_e, gen_es, gen_s, gen_b, gen_body}
use Rattle.steps.proofs.Outcome.{At, Cfg, mk, Out, done, bind}
use Rattle.steps.proofs.Variables.{Vars, Keeps, vars_keep, wides, wides-nth, arr_get, var_none, nums, arrs_of, kinds, HasAll}

-- the program, its steps, and a number above the weight of each function
pub record Env : Type 0 where
  pub p : Prog
  pub P : MProg
  pub W : ℕ
  -- the number of the function that a name stands for in a file
  pub no : Name → Name → ℕ
  pub nos : Name → List Name → List ℕ

-- a function at work: its file, its names, its number and arrays, its code; the widths of all arrays
pub record Fun : Type 0 where
  pub file : Name
  pub Γ : Scope
  pub j : Act
  pub G : MFn
  pub ws : List Bool

-- how heavy a part of the tree is: each part is lighter than the whole
abbrev mutual
  pub w_e : Expr → ℕ
  w_e (num n) = 1
  w_e (var x) = 1
  w_e (bin o a b) = suc (w_e a + w_e b)
  w_e (un o a) = suc (w_e a)
  w_e (and1 a b) = suc (w_e a + w_e b)
  w_e (or1 a b) = suc (w_e a + w_e b)
  w_e (idx x e) = suc (w_e e)
  w_e (len x) = 1
  w_e (call x es) = suc (w_es es)
  w_e (by_table x e es) = suc (w_e e + w_es es)
  w_e input = 1

  pub w_es : Exprs → ℕ
  w_es no = 1
  w_es (and_then e es) = suc (w_e e + w_es es)

abbrev mutual
  pub w_s : Stmt → ℕ
  w_s (set1 x e) = suc (w_e e)
  w_s (store1 x i e) = suc (w_e i + w_e e)
  w_s (ex1 e) = suc (w_e e)
  w_s (out1 e) = suc (w_e e)
  w_s (if1 e b c) = suc (w_e e + (w_b b + w_b c))
  w_s (while1 e b) = suc (w_e e + w_b b)
  w_s (ret1 e) = suc (w_e e)
  w_s break1 = 1
  w_s next1 = 1

  pub w_b : Block → ℕ
  w_b end = 1
  w_b (seq1 s b) = suc (w_s s + w_b b)

-- what the checks give: a name is the function's own word, or a word at the top
pub data WfVar (v : Env) (c : Fun) (x : Name) : Type 0 where
  own : (k : ℕ) → find c.Γ.slots x 0 0 ≡ some (r_word k) → WfVar v c x
  top : (t : Top) (i : ℕ) → find c.Γ.slots x 0 0 ≡ none → resolve v.p c.file x ≡ some t → as_word t ≡ some i → c.Γ.top x ≡ some t → i < v.P.words → WfVar v c x

pub data WfArr (v : Env) (c : Fun) (x : Name) (w : Bool) : Type 0 where
  own_arr : (k : ℕ) → find c.Γ.slots x 0 0 ≡ some (r_arr k w) → WfArr v c x w
  top_arr : (t : Top) (a : ℕ) → find c.Γ.slots x 0 0 ≡ none → resolve v.p c.file x ≡ some t → as_word t ≡ none → as_arr t ≡ some a → c.Γ.top x ≡ some t → is_wide t.is ≡ w → nth (wides v.P.arrays) a ≡ some w → WfArr v c x w

-- a function that a name stands for in a file
abbrev pub Calls : Env → Name → Name → List Kind → Type 0
Calls v f x ks = (t : Top) × (g : Fn) × (resolve v.p f x ≡ some t) × (as_fn t ≡ some g) × (kinds g.params ≡ ks)

abbrev pub Tables : Env → Fun → Name → List Kind → Type 0
Tables v c x ks = (t : Top) × (fs : List Name) × (resolve v.p c.file x ≡ some t) × (as_table t ≡ some fs) × (nth v.P.tables (c.Γ.table_no x) ≡ some (v.nos t.file fs)) × ((i : ℕ) (f : Name) → nth fs i ≡ some f → Calls v t.file f ks)

abbrev mutual
  pub WfE : Env → Fun → Expr → Type 0
  WfE v c (num n) = n < all
  WfE v c (var x) = WfVar v c x
  WfE v c (bin o a b) = WfE v c a × WfE v c b
  WfE v c (un o a) = WfE v c a
  WfE v c (and1 a b) = WfE v c a × WfE v c b
  WfE v c (or1 a b) = WfE v c a × WfE v c b
  WfE v c (idx x e) = ((w : Bool) × WfArr v c x w) × WfE v c e
  WfE v c (len x) = (w : Bool) × WfArr v c x w
  WfE v c (call x es) = (ks : List Kind) × Calls v c.file x ks × (c.Γ.fn_no x ≡ v.no c.file x) × WfEs v c es ks
  WfE v c (by_table x e es) = (ks : List Kind) × Tables v c x ks × WfE v c e × WfEs v c es ks
  WfE v c input = Unit {0}

  pub WfEs : Env → Fun → Exprs → List Kind → Type 0
  WfEs v c no [] = Unit {0}
  WfEs v c no (k ∷ ks) = ⊥
  WfEs v c (and_then e es) [] = ⊥
  WfEs v c (and_then e es) (k_word ∷ ks) = (arr_arg c.Γ e ≡ none) × WfE v c e × WfEs v c es ks
  WfEs v c (and_then e es) (k_arr w ∷ ks) = ((x : Name) × (e ≡ var x) × WfArr v c x w) × WfEs v c es ks

-- l: within a loop
abbrev mutual
  pub WfS : Env → Fun → Bool → Stmt → Type 0
  WfS v c l (set1 x e) = WfVar v c x × WfE v c e
  WfS v c l (store1 x i e) = ((w : Bool) × WfArr v c x w) × WfE v c i × WfE v c e
  WfS v c l (ex1 e) = WfE v c e
  WfS v c l (out1 e) = WfE v c e
  WfS v c l (if1 e a b) = WfE v c e × WfB v c l a × WfB v c l b
  WfS v c l (while1 e b) = WfE v c e × WfB v c true b
  WfS v c l (ret1 e) = WfE v c e
  WfS v c l break1 = l ≡ true
  WfS v c l next1 = l ≡ true

  pub WfB : Env → Fun → Bool → Block → Type 0
  WfB v c l end = Unit {0}
  WfB v c l (seq1 s b) = WfS v c l s × WfB v c l b

-- function g of a file is at work
pub record Compiled (v : Env) (g : Fn) (c : Fun) : Type 0 where
  pub here : nth v.P.funs c.j.fn ≡ some c.G
  pub code : At c.G.code 0 (gen_body c.Γ g.body (words_of c.Γ.slots))
  pub slots : c.Γ.slots ≡ slots_of g
  pub params : c.G.params ≡ words_of (slots_from g.params [] [])
  pub arrays : c.G.arrays ≡ arrays_of (slots_from g.params [] [])
  pub vars : c.G.vars ≡ length g.vars
  pub own : c.G.own ≡ shapes_of g.arrs
  pub costs : c.G.cost ≡ cost g
  pub wf : WfB v c false g.body
  pub light : suc (suc (w_b g.body)) ≤ v.W

-- where a call leads, with any arrays
pub record Linked (v : Env) : Type 0 where
  pub some_step : 1 ≤ v.W
  pub fn : (f x : Name) (t : Top) (g : Fn) → resolve v.p f x ≡ some t → as_fn t ≡ some g → (Γ : Scope) × (G : MFn) × ((as₁ : List ℕ) (ws : List Bool) → Compiled v g (record { file = t.file; Γ = Γ; j = record { fn = v.no f x; arrs = as₁ }; G = G; ws = ws }))
  pub not_first : (f x : Name) → 1 ≤ v.no f x
  pub nos : (f : Name) (xs : List Name) (i : ℕ) (x : Name) → nth xs i ≡ some x → nth (v.nos f xs) i ≡ some (v.no f x)
  pub nos_none : (f : Name) (xs : List Name) (i : ℕ) → nth xs i ≡ none → nth (v.nos f xs) i ≡ none

-- before a task: d is the first free place
pub record Pre (v : Env) (c : Fun) (d : ℕ) (ps : Places) (s : State) : Type 0 where
  pub here : nth v.P.funs c.j.fn ≡ some c.G
  pub room : words_of c.Γ.slots ≤ d
  pub vars : Vars c.j.arrs c.ws c.Γ.slots s.vars 0 0 ps
  pub words : length s.words ≡ v.P.words
  pub arrays : wides s.arrays ≡ c.ws
  pub base : (a : ℕ) (w : Bool) → nth (wides v.P.arrays) a ≡ some w → nth c.ws a ≡ some w

-- what an expression leaves alone
pub record Stays (s s1 : State) : Type 0 where
  pub vars : s1.vars ≡ s.vars
  pub held : s1.held ≡ s.held
  pub words : length s1.words ≡ length s.words
  pub arrays : wides s1.arrays ≡ wides s.arrays

pub stays_refl : (s : State) → Stays s s
stays_refl s = record { vars = refl; held = refl; words = refl; arrays = refl }

pub stays_trans : {s s1 s2 : State} → Stays s s1 → Stays s1 s2 → Stays s s2
stays_trans a b = record { vars = b.vars ∙ a.vars; held = b.held ∙ a.held; words = b.words ∙ a.words; arrays = b.arrays ∙ a.arrays }

pub pre-on : {v : Env} {c : Fun} {d : ℕ} {ps : Places} {s s1 : State} (k : ℕ) (ps1 : Places) → Pre v c d ps s → Stays s s1 → Keeps d ps ps1 → d ≤ k → Pre v c k ps1 s1
pre-on {c = c} {d = d} {ps = ps} {s = s} {s1 = s1} k ps1 h y e l = record { here = h.here; room = omega (arith, h.room); vars = rw y.vars (vars_keep c.j.arrs c.ws c.Γ.slots s.vars 0 0 d ps ps1 e (omega (arith, h.room)) h.vars); words = y.words ∙ h.words; arrays = y.arrays ∙ h.arrays; base = h.base }

-- behind an expression: its value is in place d, step q comes next
pub data QE (j : Act) (q d : ℕ) (ps : Places) (st : List Saved) (s : State) : Cfg → Result → Type 0 where
  q_val : (x : ℕ) (s1 : State) (ps1 : Places) → Stays s s1 → Keeps d ps ps1 → ps1 d ≡ some x → QE j q d ps st s (mk j q ps1 st s1) (val (word x) s1)

pub e-done : {P : MProg} {W D : ℕ} {j : Act} {d : ℕ} {ps ps1 : Places} {st : List Saved} {s s1 : State} {x : ℕ} (i q : ℕ) → i ≡ q → Stays s s1 → Keeps d ps ps1 → ps1 d ≡ some x → Out P W (QE j q d ps st s) D (mk j i ps1 st s1) (val (word x) s1)
e-done i q e y k h = rw e (done (q_val _ _ _ y k h))

pub on_value : {P : MProg} {W D : ℕ} {j : Act} {q d : ℕ} {ps : Places} {st : List Saved} {s : State} {m : Cfg} {r : Result} {Q : Cfg → Result → Type 0} (f : Value → State → Result) → Out P W (QE j q d ps st s) D m r → ((x : ℕ) (s1 : State) (ps1 : Places) → Stays s s1 → Keeps d ps ps1 → ps1 d ≡ some x → Out P W Q D (mk j q ps1 st s1) (f (word x) s1)) → Out P W Q D m (on_val r f)
on_value {P} {W} {D} {j} {q} {d} {ps} {st} {s} {m} {r} {Q} f o k = bind (λ r. on_val r f) (record { traps = λ c s. refl; spents = λ s. refl }) go o
  where
    go : (m1 : Cfg) (r1 : Result) → QE j q d ps st s m1 r1 → Out P W Q D m1 (on_val r1 f)
    go m1 r1 (q_val x s1 ps1 y e h) = k x s1 ps1 y e h

-- arguments, of kinds ks, behind the values vs: n words stand from place d on, and arrays are os
pub data QEs (j : Act) (q d n : ℕ) (os : List Opnd) (ks : List Kind) (ws : List Bool) (vs : List Value) (ps : Places) (st : List Saved) (s : State) : Cfg → Result → Type 0 where
  q_vals : (us : List Value) (s1 : State) (ps1 : Places) → HasAll ws us ks → Stays s s1 → Keeps d ps ps1 → args ps1 d n ≡ some (nums us) → arrs_at j.arrs os ≡ some (arrs_of us) → QEs j q d n os ks ws vs ps st s (mk j q ps1 st s1) (vals (vs ++ us) s1)

-- behind a call: back in the caller's frame
pub data QC (fr : Saved) (st : List Saved) (s : State) : Cfg → Result → Type 0 where
  q_call : (x : ℕ) (s1 : State) → Stays s s1 → QC fr st s (mk fr.act fr.pc (upd fr.places fr.dest x) st s1) (val (word x) s1)

-- behind statements: on at q, at brk or at nxt; or before a return
pub data QS (v : Env) (c : Fun) (l : Bool) (d q brk nxt : ℕ) (st : List Saved) (s : State) : Cfg → Result → Type 0 where
  q_fine : (s1 : State) (ps1 : Places) → Pre v c d ps1 s1 → s1.held ≡ s.held → QS v c l d q brk nxt st s (mk c.j q ps1 st s1) (fine s1)
  q_broke : (s1 : State) (ps1 : Places) → l ≡ true → Pre v c d ps1 s1 → s1.held ≡ s.held → QS v c l d q brk nxt st s (mk c.j brk ps1 st s1) (broke s1)
  q_next : (s1 : State) (ps1 : Places) → l ≡ true → Pre v c d ps1 s1 → s1.held ≡ s.held → QS v c l d q brk nxt st s (mk c.j nxt ps1 st s1) (goes_on s1)
  q_gives : (x a i : ℕ) (s1 : State) (ps1 : Places) → nth c.G.code i ≡ some (s_ret a) → ps1 a ≡ some x → Pre v c d ps1 s1 → s1.held ≡ s.held → QS v c l d q brk nxt st s (mk c.j i ps1 st s1) (gives (word x) s1)

pub on_values : {P : MProg} {W D : ℕ} {j : Act} {q d n : ℕ} {os : List Opnd} {ks : List Kind} {ws : List Bool} {vs : List Value} {ps : Places} {st : List Saved} {s : State} {m : Cfg} {r : Result} {Q : Cfg → Result → Type 0} (f : List Value → State → Result) → Out P W (QEs j q d n os ks ws vs ps st s) D m r → ((us : List Value) (s1 : State) (ps1 : Places) → HasAll ws us ks → Stays s s1 → Keeps d ps ps1 → args ps1 d n ≡ some (nums us) → arrs_at j.arrs os ≡ some (arrs_of us) → Out P W Q D (mk j q ps1 st s1) (f (vs ++ us) s1)) → Out P W Q D m (on_vals r f)
on_values {P} {W} {D} {j} {q} {d} {n} {os} {ks} {ws} {vs} {ps} {st} {s} {m} {r} {Q} f o z = bind (λ r. on_vals r f) (record { traps = λ c s. refl; spents = λ s. refl }) go o
  where
    go : (m1 : Cfg) (r1 : Result) → QEs j q d n os ks ws vs ps st s m1 r1 → Out P W Q D m1 (on_vals r1 f)
    go m1 r1 (q_vals us s1 ps1 a y e h g) = z us s1 ps1 a y e h g

-- the same, where the result isn't looked at
pub es-then : {P : MProg} {W D : ℕ} {j : Act} {q d n : ℕ} {os : List Opnd} {ks : List Kind} {ws : List Bool} {vs : List Value} {ps : Places} {st : List Saved} {s : State} {m : Cfg} {r : Result} {Q : Cfg → Result → Type 0} → Out P W (QEs j q d n os ks ws vs ps st s) D m r → ((us : List Value) (s1 : State) (ps1 : Places) → HasAll ws us ks → Stays s s1 → Keeps d ps ps1 → args ps1 d n ≡ some (nums us) → arrs_at j.arrs os ≡ some (arrs_of us) → Out P W Q D (mk j q ps1 st s1) (vals (vs ++ us) s1)) → Out P W Q D m r
es-then {P} {W} {D} {j} {q} {d} {n} {os} {ks} {ws} {vs} {ps} {st} {s} {m} {r} {Q} o z = bind (λ r. r) (record { traps = λ c s. refl; spents = λ s. refl }) go o
  where
    go : (m1 : Cfg) (r1 : Result) → QEs j q d n os ks ws vs ps st s m1 r1 → Out P W Q D m1 r1
    go m1 r1 (q_vals us s1 ps1 a y e h g) = z us s1 ps1 a y e h g

pub es-done : {P : MProg} {W D : ℕ} {j : Act} {d n : ℕ} {os : List Opnd} {ks : List Kind} {ws : List Bool} {vs : List Value} {ps ps1 : Places} {st : List Saved} {s s1 : State} (i q : ℕ) (us : List Value) → i ≡ q → HasAll ws us ks → Stays s s1 → Keeps d ps ps1 → args ps1 d n ≡ some (nums us) → arrs_at j.arrs os ≡ some (arrs_of us) → Out P W (QEs j q d n os ks ws vs ps st s) D (mk j i ps1 st s1) (vals (vs ++ us) s1)
es-done i q us e a y k h g = rw e (done (q_vals us _ _ a y k h g))

pub on_call : {P : MProg} {W D : ℕ} {fr : Saved} {st : List Saved} {s : State} {m : Cfg} {r : Result} {Q : Cfg → Result → Type 0} → Out P W (QC fr st s) D m r → ((x : ℕ) (s1 : State) → Stays s s1 → Out P W Q D (mk fr.act fr.pc (upd fr.places fr.dest x) st s1) (val (word x) s1)) → Out P W Q D m r
on_call {P} {W} {D} {fr} {st} {s} {m} {r} {Q} o k = bind (λ r. r) (record { traps = λ c s. refl; spents = λ s. refl }) go o
  where
    go : (m1 : Cfg) (r1 : Result) → QC fr st s m1 r1 → Out P W Q D m1 r1
    go m1 r1 (q_call x s1 y) = k x s1 y

-- the array that a name stands for
pub record ArrAt (v : Env) (c : Fun) (x : Name) (w : Bool) (s : State) : Type 0 where
  pub a : ℕ
  pub o : Opnd
  pub found : get_var v.p c.file x s ≡ some (array a)
  pub got : get_arr v.p c.file x s ≡ some a
  pub op : gen_arr c.Γ x ≡ some o
  pub at : arr_at c.j.arrs o ≡ some a
  pub wide : wide_of c.Γ x ≡ w
  pub width : nth c.ws a ≡ some w

pub arr-there : {v : Env} {c : Fun} {d : ℕ} {ps : Places} {s : State} (x : Name) (w : Bool) → Pre v c d ps s → WfArr v c x w → ArrAt v c x w s
arr-there {v} {c} {d} {ps} {s} x w pre (own_arr k e) = let g = arr_get c.j.arrs c.ws c.Γ.slots s.vars ps x pre.vars k w e in record { a = g.0; o = o_own k; found = rw g.1; got = rw g.1; op = rw e; at = g.2; wide = rw e; width = g.3 }
arr-there {v} {c} {d} {ps} {s} x w pre (top_arr t a e r nw ar gt iw h) = let b = var_none c.j.arrs c.ws c.Γ.slots s.vars ps x pre.vars e in record { a = a; o = o_top a; found = rw (b, r, nw, ar); got = rw (b, r, nw, ar); op = rw (e, gt, ar); at = refl; wide = rw (e, gt) iw; width = pre.base a w h }

pub cells-there : {v : Env} {c : Fun} {d : ℕ} {ps : Places} {s : State} {x : Name} {w : Bool} → Pre v c d ps s → (q : ArrAt v c x w s) → (cs : Cells) × (nth s.arrays q.a ≡ some cs) × (cs.wide ≡ w)
cells-there {s = s} {w = w} pre q = wides-nth s.arrays q.a w (ap (λ l. nth l q.a) pre.arrays ∙ q.width)

abbrev pub SimE : Env → ℕ → Type 0
SimE v n = (c : Fun) (e : Expr) (d pc : ℕ) (ps : Places) (st : List Saved) (s : State) → Pre v c d ps s → WfE v c e → At c.G.code pc (gen_e c.Γ e d pc) → Out v.P v.W (QE c.j (pc + size_e c.Γ e) d ps st s) (n - w_e e) (mk c.j pc ps st s) (run v.p n c.file (t_e e) s)

abbrev pub SimEs : Env → ℕ → Type 0
SimEs v n = (c : Fun) (es : Exprs) (ks : List Kind) (d pc : ℕ) (ps : Places) (st : List Saved) (s : State) (vs : List Value) → Pre v c d ps s → WfEs v c es ks → At c.G.code pc (gen_es c.Γ es d pc) → Out v.P v.W (QEs c.j (pc + size_es c.Γ es) d (count c.Γ es) (opnds c.Γ es) ks c.ws vs ps st s) (n - w_es es) (mk c.j pc ps st s) (run v.p n c.file (t_es es vs) s)

abbrev pub SimS : Env → ℕ → Type 0
SimS v n = (c : Fun) (a : Stmt) (l : Bool) (d brk nxt pc : ℕ) (ps : Places) (st : List Saved) (s : State) → Pre v c d ps s → WfS v c l a → At c.G.code pc (gen_s c.Γ a d brk nxt pc) → Out v.P v.W (QS v c l d (pc + size_s c.Γ a) brk nxt st s) (n - w_s a) (mk c.j pc ps st s) (run v.p n c.file (t_s a) s)

-- a loop from its head on
abbrev pub SimW : Env → ℕ → Type 0
SimW v n = (c : Fun) (e : Expr) (b : Block) (l : Bool) (d brk nxt pc : ℕ) (ps : Places) (st : List Saved) (s : State) → Pre v c d ps s → WfS v c l (while1 e b) → At c.G.code pc (gen_s c.Γ (while1 e b) d brk nxt pc) → Out v.P v.W (QS v c l d (pc + size_s c.Γ (while1 e b)) brk nxt st s) (n - w_s (while1 e b)) (mk c.j (pc + 2) ps st s) (run v.p n c.file (t_s (while1 e b)) s)

abbrev pub SimB : Env → ℕ → Type 0
SimB v n = (c : Fun) (b : Block) (l : Bool) (d brk nxt pc : ℕ) (ps : Places) (st : List Saved) (s : State) → Pre v c d ps s → WfB v c l b → At c.G.code pc (gen_b c.Γ b d brk nxt pc) → Out v.P v.W (QS v c l d (pc + size_b c.Γ b) brk nxt st s) (n - w_b b) (mk c.j pc ps st s) (run v.p n c.file (t_b b) s)

-- a function at work, called in state s with the values vs
pub record Called (v : Env) (g : Fn) (c : Fun) (vs : List Value) (s : State) : Type 0 where
  pub fn : Compiled v g c
  pub words : length s.words ≡ v.P.words
  pub fits : HasAll (wides s.arrays) vs (kinds g.params)
  pub base : (a : ℕ) (w : Bool) → nth (wides v.P.arrays) a ≡ some w → nth (wides s.arrays) a ≡ some w
  pub arrs : c.j.arrs ≡ arrs_of vs ++ upto (length s.arrays) c.G.own
  pub ws : c.ws ≡ wides (s.arrays ++ new_arrs g.arrs)

abbrev pub SimC : Env → ℕ → Type 0
SimC v n = 1 ≤ n → (c : Fun) (g : Fn) (vs : List Value) (fr : Saved) (st : List Saved) (s : State) → Called v g c vs s → Out v.P v.W (QC fr st s) (n - suc (w_b g.body)) (mk c.j 0 (entry c.G (nums vs)) (fr ∷ st) (enter g vs s)) (run v.p n c.file (t_call g vs) s)

pub record Sim (v : Env) (n : ℕ) : Type 0 where
  pub e : SimE v n
  pub es : SimEs v n
  pub s : SimS v n
  pub w : SimW v n
  pub b : SimB v n
  pub c : SimC v n
