-- From trees to steps.
use Rattle.std.specs.Prelude.{ℕ, suc, ◌+◌, max, Bool, true, ◌&&◌, List, [], ◌∷◌, ◌++◌, length}
use Rattle.std.proofs.Math.Option.{Option, some, none}
use Rattle.language.specs.Syntax.{pick, opt, Name, same, Expr, num, var, bin, un, and1, or1, idx, len, call, by_table, input, Exprs, no, and_then, Stmt, set1, store1, ex1, out1, if1, while1, ret1, break1, next1, Block, end, seq1, Kind, k_word, k_arr, Param, Arr, Fn, Prog}
use Rattle.language.specs.Meaning.{on_some, Is, is_word, is_arr, is_table, is_fn, Top, top_of, all_tops, used_in, items_of, resolve, as_word, as_fn, as_arr, as_table, cost, all_arrays, all_words, first_file, w_main}
use Rattle.steps.specs.Steps.{Opnd, o_top, o_own, Step, s_num, s_copy, s_bin, s_un, s_flag, s_getw, s_setw, s_jump, s_jz, s_call, s_table, s_out, s_ret, s_in, s_idx, s_put, s_len, Shape, MFn, MProg}

-- a function's own names, in their order; where one stands
pub data Slot : Type 0 where
  w_slot : Name → Slot
  a_slot : Name → Bool → Slot

pub data Ref : Type 0 where
  r_word : ℕ → Ref
  r_arr : ℕ → Bool → Ref

abbrev pub find : List Slot → Name → ℕ → ℕ → Option Ref
find [] x i j = none
find (w_slot y ∷ ys) x i j = pick (same y x) (some (r_word i)) (find ys x (suc i) j)
find (a_slot y w ∷ ys) x i j = pick (same y x) (some (r_arr j w)) (find ys x i (suc j))

abbrev pub words_of : List Slot → ℕ
words_of [] = 0
words_of (w_slot y ∷ ys) = suc (words_of ys)
words_of (a_slot y w ∷ ys) = words_of ys

abbrev pub arrays_of : List Slot → ℕ
arrays_of [] = 0
arrays_of (w_slot y ∷ ys) = arrays_of ys
arrays_of (a_slot y w ∷ ys) = suc (arrays_of ys)

-- what names stand for in a function: its own, and those of the top
pub record Scope : Type 0 where
  pub slots : List Slot
  pub top : Name → Option Top
  pub fn_no : Name → ℕ
  pub table_no : Name → ℕ

abbrev pub ref_arr : Ref → Option Opnd
ref_arr (r_word k) = none
ref_arr (r_arr j w) = some (o_own j)

abbrev pub ref_wide : Ref → Bool
ref_wide (r_word k) = true
ref_wide (r_arr j w) = w

abbrev pub is_wide : Is → Bool
is_wide (is_word i) = true
is_wide (is_arr a w) = w
is_wide (is_table fs) = true
is_wide (is_fn g) = true

abbrev pub gen_arr : Scope → Name → Option Opnd
gen_arr Γ x = opt (find Γ.slots x 0 0) (on_some (on_some (Γ.top x) as_arr) (λ a. some (o_top a))) ref_arr

abbrev pub wide_of : Scope → Name → Bool
wide_of Γ x = opt (find Γ.slots x 0 0) (opt (Γ.top x) true (λ t. is_wide t.is)) ref_wide

abbrev pub the_arr : Scope → Name → Opnd
the_arr Γ x = opt (gen_arr Γ x) (o_top 0) (λ o. o)

-- an argument that is an array
abbrev pub arr_arg : Scope → Expr → Option Opnd
arr_arg Γ (num n) = none
arr_arg Γ (var x) = gen_arr Γ x
arr_arg Γ (bin o a b) = none
arr_arg Γ (un o a) = none
arr_arg Γ (and1 a b) = none
arr_arg Γ (or1 a b) = none
arr_arg Γ (idx x e) = none
arr_arg Γ (len x) = none
arr_arg Γ (call x es) = none
arr_arg Γ (by_table x e es) = none
arr_arg Γ input = none

-- a word of the function's own: it stands in its place already, and no expression changes it
abbrev pub ref_word : Ref → Option ℕ
ref_word (r_word k) = some k
ref_word (r_arr j w) = none

abbrev pub own_at : Scope → Expr → Option ℕ
own_at Γ (num n) = none
own_at Γ (var x) = on_some (find Γ.slots x 0 0) ref_word
own_at Γ (bin o a b) = none
own_at Γ (un o a) = none
own_at Γ (and1 a b) = none
own_at Γ (or1 a b) = none
own_at Γ (idx x e) = none
own_at Γ (len x) = none
own_at Γ (call x es) = none
own_at Γ (by_table x e es) = none
own_at Γ input = none

abbrev pub at_place : Scope → Expr → ℕ → ℕ
at_place Γ e d = opt (own_at Γ e) d (λ k. k)

abbrev pub unless : {A : Type 0} → Option ℕ → A → A → A
unless none a b = b
unless (some k) a b = a

abbrev pub count : Scope → Exprs → ℕ
count Γ no = 0
count Γ (and_then e es) = opt (arr_arg Γ e) (suc (count Γ es)) (λ o. count Γ es)

abbrev pub opnds : Scope → Exprs → List Opnd
opnds Γ no = []
opnds Γ (and_then e es) = opt (arr_arg Γ e) (opnds Γ es) (λ o. o ∷ opnds Γ es)

-- how many steps
abbrev mutual
  pub size_e : Scope → Expr → ℕ
  size_e Γ (num n) = 1
  size_e Γ (var x) = 1
  size_e Γ (bin o a b) = suc (unless (own_at Γ a) 0 (size_e Γ a) + unless (own_at Γ b) 0 (size_e Γ b))
  size_e Γ (un o a) = suc (unless (own_at Γ a) 0 (size_e Γ a))
  size_e Γ (and1 a b) = suc (suc (size_e Γ a + size_e Γ b))
  size_e Γ (or1 a b) = suc (suc (suc (suc (size_e Γ a + size_e Γ b))))
  size_e Γ (idx x e) = suc (unless (own_at Γ e) 0 (size_e Γ e))
  size_e Γ (len x) = 1
  size_e Γ (call x es) = suc (size_es Γ es)
  size_e Γ (by_table x e es) = suc (unless (own_at Γ e) 0 (size_e Γ e) + size_es Γ es)
  size_e Γ input = 1

  pub size_es : Scope → Exprs → ℕ
  size_es Γ no = 0
  size_es Γ (and_then e es) = opt (arr_arg Γ e) (size_e Γ e + size_es Γ es) (λ o. size_es Γ es)

abbrev pub size_v : Scope → Expr → ℕ
size_v Γ e = unless (own_at Γ e) 0 (size_e Γ e)

abbrev mutual
  pub size_s : Scope → Stmt → ℕ
  size_s Γ (set1 x e) = suc (size_e Γ e)
  size_s Γ (store1 x i e) = suc (size_v Γ i + size_v Γ e)
  size_s Γ (ex1 e) = size_e Γ e
  size_s Γ (out1 e) = suc (size_v Γ e)
  size_s Γ (if1 e b c) = suc (suc (size_e Γ e + (size_b Γ b + size_b Γ c)))
  size_s Γ (while1 e b) = suc (suc (suc (suc (size_e Γ e + size_b Γ b))))
  size_s Γ (ret1 e) = suc (size_v Γ e)
  size_s Γ break1 = 1
  size_s Γ next1 = 1

  pub size_b : Scope → Block → ℕ
  size_b Γ end = 0
  size_b Γ (seq1 s b) = size_s Γ s + size_b Γ b

-- how many places from the first free one on
abbrev mutual
  pub need_e : Scope → Expr → ℕ
  need_e Γ (num n) = 1
  need_e Γ (var x) = 1
  need_e Γ (bin o a b) = max (need_e Γ a) (suc (need_e Γ b))
  need_e Γ (un o a) = need_e Γ a
  need_e Γ (and1 a b) = max (need_e Γ a) (need_e Γ b)
  need_e Γ (or1 a b) = max (need_e Γ a) (need_e Γ b)
  need_e Γ (idx x e) = need_e Γ e
  need_e Γ (len x) = 1
  need_e Γ (call x es) = max 1 (need_es Γ es)
  need_e Γ (by_table x e es) = max (need_e Γ e) (suc (need_es Γ es))
  need_e Γ input = 1

  pub need_es : Scope → Exprs → ℕ
  need_es Γ no = 0
  need_es Γ (and_then e es) = opt (arr_arg Γ e) (max (need_e Γ e) (suc (need_es Γ es))) (λ o. need_es Γ es)

abbrev mutual
  pub need_s : Scope → Stmt → ℕ
  need_s Γ (set1 x e) = need_e Γ e
  need_s Γ (store1 x i e) = max (need_e Γ i) (suc (need_e Γ e))
  need_s Γ (ex1 e) = need_e Γ e
  need_s Γ (out1 e) = need_e Γ e
  need_s Γ (if1 e b c) = max (need_e Γ e) (max (need_b Γ b) (need_b Γ c))
  need_s Γ (while1 e b) = max (need_e Γ e) (need_b Γ b)
  need_s Γ (ret1 e) = need_e Γ e
  need_s Γ break1 = 0
  need_s Γ next1 = 0

  pub need_b : Scope → Block → ℕ
  need_b Γ end = 1
  need_b Γ (seq1 s b) = max (need_s Γ s) (need_b Γ b)

abbrev pub copies : ℕ → Ref → Step
copies d (r_word k) = s_copy d k
copies d (r_arr j w) = s_num d 0

abbrev pub sets_to : ℕ → Ref → Step
sets_to a (r_word k) = s_copy k a
sets_to a (r_arr j w) = s_num a 0

abbrev pub gen_var : Scope → Name → ℕ → Step
gen_var Γ x d = opt (find Γ.slots x 0 0) (opt (on_some (Γ.top x) as_word) (s_num d 0) (s_getw d)) (copies d)

abbrev pub gen_set : Scope → Name → ℕ → Step
gen_set Γ x a = opt (find Γ.slots x 0 0) (opt (on_some (Γ.top x) as_word) (s_num a 0) (λ i. s_setw i a)) (sets_to a)

-- the value goes to place d, and only places from d on are used; the first step has number pc
abbrev mutual
  pub gen_e : Scope → Expr → ℕ → ℕ → List Step
  gen_e Γ (num n) d pc = s_num d n ∷ []
  gen_e Γ (var x) d pc = gen_var Γ x d ∷ []
  gen_e Γ (bin o a b) d pc = unless (own_at Γ a) [] (gen_e Γ a d pc) ++ (unless (own_at Γ b) [] (gen_e Γ b (suc d) (pc + size_v Γ a)) ++ (s_bin o d (at_place Γ a d) (at_place Γ b (suc d)) ∷ []))
  gen_e Γ (un o a) d pc = unless (own_at Γ a) [] (gen_e Γ a d pc) ++ (s_un o d (at_place Γ a d) ∷ [])
  gen_e Γ (and1 a b) d pc = gen_e Γ a d pc ++ (s_jz d (pc + size_e Γ (and1 a b)) ∷ (gen_e Γ b d (suc (pc + size_e Γ a)) ++ (s_flag d d ∷ [])))
  gen_e Γ (or1 a b) d pc = gen_e Γ a d pc ++ (s_jz d (suc (suc (suc (pc + size_e Γ a)))) ∷ s_num d 1 ∷ s_jump (pc + size_e Γ (or1 a b)) ∷ (gen_e Γ b d (suc (suc (suc (pc + size_e Γ a)))) ++ (s_flag d d ∷ [])))
  gen_e Γ (idx x e) d pc = unless (own_at Γ e) [] (gen_e Γ e d pc) ++ (s_idx d (the_arr Γ x) (at_place Γ e d) ∷ [])
  gen_e Γ (len x) d pc = s_len d (the_arr Γ x) ∷ []
  gen_e Γ (call x es) d pc = gen_es Γ es d pc ++ (s_call d (Γ.fn_no x) d (count Γ es) (opnds Γ es) ∷ [])
  gen_e Γ (by_table x e es) d pc = unless (own_at Γ e) [] (gen_e Γ e d pc) ++ (gen_es Γ es (suc d) (pc + size_v Γ e) ++ (s_table d (at_place Γ e d) (Γ.table_no x) (suc d) (count Γ es) (opnds Γ es) ∷ []))
  gen_e Γ input d pc = s_in d ∷ []

  pub gen_es : Scope → Exprs → ℕ → ℕ → List Step
  gen_es Γ no d pc = []
  gen_es Γ (and_then e es) d pc = opt (arr_arg Γ e) (gen_e Γ e d pc ++ gen_es Γ es (suc d) (pc + size_e Γ e)) (λ o. gen_es Γ es d pc)

abbrev pub gen_v : Scope → Expr → ℕ → ℕ → List Step
gen_v Γ e d pc = unless (own_at Γ e) [] (gen_e Γ e d pc)

-- d: the first free place; where break and continue go
abbrev mutual
  pub gen_s : Scope → Stmt → ℕ → ℕ → ℕ → ℕ → List Step
  gen_s Γ (set1 x e) d brk nxt pc = gen_e Γ e d pc ++ (gen_set Γ x d ∷ [])
  gen_s Γ (store1 x i e) d brk nxt pc = gen_v Γ i d pc ++ (gen_v Γ e (suc d) (pc + size_v Γ i) ++ (s_put (wide_of Γ x) (the_arr Γ x) (at_place Γ i d) (at_place Γ e (suc d)) ∷ []))
  gen_s Γ (ex1 e) d brk nxt pc = gen_e Γ e d pc
  gen_s Γ (out1 e) d brk nxt pc = gen_v Γ e d pc ++ (s_out (at_place Γ e d) ∷ [])
  gen_s Γ (if1 e b c) d brk nxt pc = gen_e Γ e d pc ++ (s_jz d (suc (suc (pc + size_e Γ e + size_b Γ b))) ∷ (gen_b Γ b d brk nxt (suc (pc + size_e Γ e)) ++ (s_jump (pc + size_s Γ (if1 e b c)) ∷ gen_b Γ c d brk nxt (suc (suc (pc + size_e Γ e + size_b Γ b))))))
  -- the step before the loop's head leads to its end, and all that leave the loop go there: only that one jump forward waits for its target
  gen_s Γ (while1 e b) d brk nxt pc = s_jump (pc + 2) ∷ s_jump (pc + size_s Γ (while1 e b)) ∷ (gen_e Γ e d (pc + 2) ++ (s_jz d (pc + 1) ∷ (gen_b Γ b d (pc + 1) (pc + 2) (suc (pc + 2 + size_e Γ e)) ++ (s_jump (pc + 2) ∷ []))))
  gen_s Γ (ret1 e) d brk nxt pc = gen_v Γ e d pc ++ (s_ret (at_place Γ e d) ∷ [])
  gen_s Γ break1 d brk nxt pc = s_jump brk ∷ []
  gen_s Γ next1 d brk nxt pc = s_jump nxt ∷ []

  pub gen_b : Scope → Block → ℕ → ℕ → ℕ → ℕ → List Step
  gen_b Γ end d brk nxt pc = []
  gen_b Γ (seq1 s b) d brk nxt pc = gen_s Γ s d brk nxt pc ++ gen_b Γ b d brk nxt (pc + size_s Γ s)

abbrev pub gen_body : Scope → Block → ℕ → List Step
gen_body Γ b d = gen_b Γ b d 0 0 0 ++ (s_num d 0 ∷ s_ret d ∷ [])

-- of what stands at the top those of one sort, in the order of the files; the number of a name among them
abbrev pub sorted : {A C : Type 0} → (Top → Option A) → (Top → A → C) → List Top → List C
sorted is f [] = []
sorted is f (t ∷ ts) = opt (is t) (sorted is f ts) (λ a. f t a ∷ sorted is f ts)

abbrev pub pos : {A : Type 0} → (Top → Option A) → List Top → Name → Name → ℕ
pos is [] f x = 0
pos is (t ∷ ts) f x = pick (same t.file f && same t.name x) 0 (opt (is t) (pos is ts f x) (λ a. suc (pos is ts f x)))

abbrev pub number : {A : Type 0} → (Top → Option A) → Prog → Name → Name → ℕ
number is p f x = opt (top_of (all_tops p 0 0) f x) (opt (used_in (items_of p f) x) 0 (λ g. pos is (all_tops p 0 0) g x)) (λ t. pos is (all_tops p 0 0) f x)

-- function number 0 calls main
abbrev pub fn_no : Prog → Name → Name → ℕ
fn_no p f x = suc (number as_fn p f x)

abbrev pub fn_nos : Prog → Name → List Name → List ℕ
fn_nos p f [] = []
fn_nos p f (x ∷ xs) = fn_no p f x ∷ fn_nos p f xs

abbrev pub scope : Prog → Name → List Slot → Scope
scope p f xs = record { slots = xs; top = resolve p f; fn_no = fn_no p f; table_no = number as_table p f }

abbrev pub slot_of : Name → Kind → Slot
slot_of x k_word = w_slot x
slot_of x (k_arr w) = a_slot x w

abbrev pub arr_slots : List Arr → List Slot
arr_slots [] = []
arr_slots (a ∷ as₁) = a_slot a.name a.wide ∷ arr_slots as₁

abbrev pub var_slots : List Name → List Arr → List Slot
var_slots [] as₁ = arr_slots as₁
var_slots (x ∷ xs) as₁ = w_slot x ∷ var_slots xs as₁

abbrev pub slots_from : List Param → List Name → List Arr → List Slot
slots_from [] xs as₁ = var_slots xs as₁
slots_from (q ∷ qs) xs as₁ = slot_of q.name q.kind ∷ slots_from qs xs as₁

abbrev pub slots_of : Fn → List Slot
slots_of g = slots_from g.params g.vars g.arrs

abbrev pub shapes_of : List Arr → List Shape
shapes_of [] = []
shapes_of (a ∷ as₁) = record { wide = a.wide; size = a.size } ∷ shapes_of as₁

abbrev pub gen_fn : Prog → Name → Fn → MFn
gen_fn p f g = record {
  params = words_of (slots_from g.params [] []);
  arrays = arrays_of (slots_from g.params [] []);
  vars = length g.vars;
  own = shapes_of g.arrs;
  places = words_of (slots_of g) + need_b (scope p f (slots_of g)) g.body;
  cost = cost g;
  code = gen_body (scope p f (slots_of g)) g.body (words_of (slots_of g));
}

abbrev pub boot : Prog → MFn
boot p = record { params = 0; arrays = 0; vars = 0; own = []; places = 1; cost = 0; code = gen_e (scope p (first_file p) []) (call w_main no) 0 0 ++ (s_ret 0 ∷ []) }

abbrev pub gen_prog : Prog → MProg
gen_prog p = record {
  funs = boot p ∷ sorted as_fn (λ t g. gen_fn p t.file g) (all_tops p 0 0);
  tables = sorted as_table (λ t fs. fn_nos p t.file fs) (all_tops p 0 0);
  words = all_words p;
  arrays = all_arrays p;
}
