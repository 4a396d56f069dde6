-- What makes files a program: names that stand for what is wanted of them, and sizes within their bounds.
-- Rests on how Meaning finds names; every promise is about programs that pass.
use Rattle.std.specs.Prelude.{Bool, true, false, ◌&&◌, ◌||◌, not, List, [], ◌∷◌, ◌++◌, ℕ, ◌+◌, length, ltb, leb}
use Rattle.std.proofs.Math.Option.{Option, some, none}
use Rattle.language.specs.Syntax.{pick, opt, Name, same, listed, Expr, num, var, bin, un, and1, or1, idx, len, call, by_table, input, Exprs, no, and_then, Stmt, set1, store1, ex1, out1, if1, while1, ret1, break1, next1, Block, end, seq1, Kind, k_word, k_arr, Param, Arr, Fn, Item, i_word, i_arr, i_data, i_table, i_fn, i_use, Prog}
use Rattle.language.specs.Words.{all}
use Rattle.language.specs.Meaning.{Is, is_word, is_arr, is_table, is_fn, Top, resolve, top_of, all_tops, as_fn, as_table, or_else, on_some, first_file, w_main}

-- Kinds: a word, or an array of words or of bytes.
abbrev pub same_k : Kind → Kind → Bool
same_k k_word k_word = true
same_k k_word (k_arr w) = false
same_k (k_arr w) k_word = false
same_k (k_arr true) (k_arr w) = w
same_k (k_arr false) (k_arr w) = not w

-- the kind of what stands at the top; tables and functions have none
abbrev pub kind_is : Is → Option Kind
kind_is (is_word i) = some k_word
kind_is (is_arr a w) = some (k_arr w)
kind_is (is_table fs) = none
kind_is (is_fn g) = none

-- What a name is in a function g of file f: a parameter, else a variable, else an own array, else what stands at the top.
abbrev pub in_params : List Param → Name → Option Kind
in_params [] x = none
in_params (p ∷ ps) x = pick (same p.name x) (some p.kind) (in_params ps x)

abbrev pub in_arrs : List Arr → Name → Option Kind
in_arrs [] x = none
in_arrs (a ∷ as₁) x = pick (same a.name x) (some (k_arr a.wide)) (in_arrs as₁ x)

abbrev pub kind_of : Prog → Name → Fn → Name → Option Kind
kind_of p f g x =
    or_else (in_params g.params x) (
    or_else (pick (listed x g.vars) (some k_word) none) (
    or_else (in_arrs g.arrs x)
    (on_some (resolve p f x) λ t. kind_is t.is)))

-- whether a name is of a kind, and whether it is an array at all
abbrev pub is_kind : Option Kind → Kind → Bool
is_kind none k = false
is_kind (some j) k = same_k j k

abbrev pub any_arr : Option Kind → Bool
any_arr none = false
any_arr (some k_word) = false
any_arr (some (k_arr w)) = true

-- An argument for an array parameter is the name of an array of that kind; any other is an expression that gives a word.
abbrev pub names_arr : Prog → Name → Fn → Bool → Expr → Bool
names_arr p f g w (num n) = false
names_arr p f g w (var x) = is_kind (kind_of p f g x) (k_arr w)
names_arr p f g w (bin o a b) = false
names_arr p f g w (un o a) = false
names_arr p f g w (and1 a b) = false
names_arr p f g w (or1 a b) = false
names_arr p f g w (idx x e) = false
names_arr p f g w (len x) = false
names_arr p f g w (call x es) = false
names_arr p f g w (by_table x e es) = false
names_arr p f g w input = false

-- whether an argument fits a parameter's kind; it is told whether the argument gives a word
abbrev pub fits_arg : Prog → Name → Fn → Expr → Bool → Option Kind → Bool
fits_arg p f g e as_word none = false
fits_arg p f g e as_word (some k_word) = as_word
fits_arg p f g e as_word (some (k_arr w)) = names_arr p f g w e

-- parameters, one by one
abbrev pub first_k : List Param → Option Kind
first_k [] = none
first_k (q ∷ qs) = some q.kind

abbrev pub rest_k : List Param → List Param
rest_k [] = []
rest_k (q ∷ qs) = qs

abbrev pub no_more : List Param → Bool
no_more [] = true
no_more (q ∷ qs) = false

-- The parameters of what is called. A function's own names hide functions and tables of the top.
abbrev pub fn_named : Prog → Name → Name → Option Fn
fn_named p f x = on_some (resolve p f x) as_fn

abbrev pub is_local : Fn → Name → Bool
is_local g x =
    opt (in_params g.params x)
    (listed x g.vars || opt (in_arrs g.arrs x) false (λ k. true))
    (λ k. true)

abbrev pub params_of : Prog → Name → Fn → Name → Option (List Param)
params_of p f g x = pick (is_local g x) none (on_some (fn_named p f x) λ h. some h.params)

-- the parameters of a table's functions: those of its first
abbrev pub head_fn : Prog → Name → List Name → Option (List Param)
head_fn p f [] = none
head_fn p f (x ∷ xs) = on_some (fn_named p f x) (λ h. some h.params)

abbrev pub params_of_table : Prog → Name → Fn → Name → Option (List Param)
params_of_table p f g x =
    pick (is_local g x) none
    (on_some (resolve p f x) λ t.
    on_some (as_table t) λ fs.
    head_fn p t.file fs)

abbrev mutual
  -- an expression of function g in file f that gives a word
  pub ok_e : Prog → Name → Fn → Expr → Bool
  ok_e p f g (num n) = ltb n all
  ok_e p f g (var x) = is_kind (kind_of p f g x) k_word
  ok_e p f g (bin o a b) = ok_e p f g a && ok_e p f g b
  ok_e p f g (un o a) = ok_e p f g a
  ok_e p f g (and1 a b) = ok_e p f g a && ok_e p f g b
  ok_e p f g (or1 a b) = ok_e p f g a && ok_e p f g b
  ok_e p f g (idx x e) = any_arr (kind_of p f g x) && ok_e p f g e
  ok_e p f g (len x) = any_arr (kind_of p f g x)
  ok_e p f g (call x es) = opt (params_of p f g x) false (λ qs. ok_es p f g qs es)
  ok_e p f g (by_table x e es) =
      ok_e p f g e &&
      opt (params_of_table p f g x) false (λ qs. ok_es p f g qs es)
  ok_e p f g input = true

  -- as many arguments as parameters, each of its kind
  pub ok_es : Prog → Name → Fn → List Param → Exprs → Bool
  ok_es p f g qs no = no_more qs
  ok_es p f g qs (and_then e es) = fits_arg p f g e (ok_e p f g e) (first_k qs) && ok_es p f g (rest_k qs) es

abbrev mutual
  -- a statement; l says whether it stands in a loop, as break and continue must
  pub ok_s : Prog → Name → Fn → Bool → Stmt → Bool
  ok_s p f g l (set1 x e) = is_kind (kind_of p f g x) k_word && ok_e p f g e
  ok_s p f g l (store1 x i e) = any_arr (kind_of p f g x) && (ok_e p f g i && ok_e p f g e)
  ok_s p f g l (ex1 e) = ok_e p f g e
  ok_s p f g l (out1 e) = ok_e p f g e
  ok_s p f g l (if1 e b c) = ok_e p f g e && (ok_b p f g l b && ok_b p f g l c)
  ok_s p f g l (while1 e b) = ok_e p f g e && ok_b p f g true b
  ok_s p f g l (ret1 e) = ok_e p f g e
  ok_s p f g l break1 = l
  ok_s p f g l next1 = l

  pub ok_b : Prog → Name → Fn → Bool → Block → Bool
  ok_b p f g l end = true
  ok_b p f g l (seq1 s b) = ok_s p f g l s && ok_b p f g l b

-- no name twice
abbrev pub once : List Name → Bool
once [] = true
once (x ∷ xs) = not (listed x xs) && once xs

abbrev pub param_names : List Param → List Name
param_names [] = []
param_names (q ∷ qs) = q.name ∷ param_names qs

abbrev pub arr_names : List Arr → List Name
arr_names [] = []
arr_names (a ∷ as₁) = a.name ∷ arr_names as₁

-- arrays have 1 to n elements
abbrev pub sizes : ℕ → List Arr → Bool
sizes n [] = true
sizes n (a ∷ as₁) = leb 1 a.size && (leb a.size n && sizes n as₁)

-- a function: at most 8 parameters, 64 variables and 16 arrays of 1 to 4,096; all its names differ
abbrev pub ok_fn : Prog → Name → Fn → Bool
ok_fn p f g =
    leb (length g.params) 8 && (
    leb (length g.vars) 64 && (
    leb (length g.arrs) 16 && (
    sizes 4096 g.arrs && (
    once (param_names g.params ++ (g.vars ++ arr_names g.arrs)) &&
    ok_b p f g false g.body))))

-- a table's functions have the same kinds of parameters
abbrev pub same_ps : List Param → List Param → Bool
same_ps [] [] = true
same_ps [] (y ∷ ys) = false
same_ps (x ∷ xs) [] = false
same_ps (x ∷ xs) (y ∷ ys) = same_k x.kind y.kind && same_ps xs ys

abbrev pub alike : Prog → Name → List Param → List Name → Bool
alike p f qs [] = true
alike p f qs (x ∷ xs) =
    opt (fn_named p f x) false (λ h. same_ps qs h.params) &&
    alike p f qs xs

-- names that are used from file y stand at the top of that file itself, not used by it from a third
abbrev pub all_there : List Top → Name → List Name → Bool
all_there ts y [] = true
all_there ts y (x ∷ xs) =
    opt (top_of ts y x) false (λ t. true) &&
    all_there ts y xs

-- values of an array are words (true) or bytes (false)
abbrev pub words_ok : Bool → List ℕ → Bool
words_ok w [] = true
words_ok w (n ∷ ns) = ltb n (pick w all 256) && words_ok w ns

-- What stands at the top of file f: arrays have 1 to 65,536 elements (with values at least one, and no text is long enough for more);
-- a file uses nothing from itself.
abbrev pub ok_item : Prog → Name → Item → Bool
ok_item p f (i_word x) = true
ok_item p f (i_arr a) = leb 1 a.size && leb a.size 65536
ok_item p f (i_data w x ns) = leb 1 (length ns) && words_ok w ns
ok_item p f (i_table x fs) = opt (head_fn p f fs) false (λ qs. alike p f qs fs)
ok_item p f (i_fn g) = ok_fn p f g
ok_item p f (i_use y xs) = not (same y f) && all_there (all_tops p 0 0) y xs

abbrev pub ok_is : Prog → Name → List Item → Bool
ok_is p f [] = true
ok_is p f (i ∷ is) = ok_item p f i && ok_is p f is

-- the names at the top of a file, with those that it uses
abbrev pub names_in : List Item → List Name
names_in [] = []
names_in (i_word x ∷ is) = x ∷ names_in is
names_in (i_arr a ∷ is) = a.name ∷ names_in is
names_in (i_data w x ns ∷ is) = x ∷ names_in is
names_in (i_table x fs ∷ is) = x ∷ names_in is
names_in (i_fn g ∷ is) = g.name ∷ names_in is
names_in (i_use y xs ∷ is) = xs ++ names_in is

abbrev pub file_names : Prog → List Name
file_names [] = []
file_names (f ∷ fs) = f.name ∷ file_names fs

-- in each of these files, which are of p, all names at the top differ, and all that stands there is as it must be
abbrev pub ok_fs : Prog → Prog → Bool
ok_fs p [] = true
ok_fs p (f ∷ fs) =
    once (names_in f.items) && (
    ok_is p f.name f.items &&
    ok_fs p fs)

-- main stands in the first file itself, and has no parameters
abbrev pub has_main : Prog → Bool
has_main p =
    opt (on_some (top_of (all_tops p 0 0) (first_file p) w_main) as_fn) false λ g.
    no_more g.params

-- how many elements the arrays at the top have together
abbrev pub total : List Item → ℕ
total [] = 0
total (i_word x ∷ is) = total is
total (i_arr a ∷ is) = a.size + total is
total (i_data w x ns ∷ is) = length ns + total is
total (i_table x fs ∷ is) = total is
total (i_fn g ∷ is) = total is
total (i_use y xs ∷ is) = total is

abbrev pub totals : Prog → ℕ
totals [] = 0
totals (f ∷ fs) = total f.items + totals fs

-- Files are a program if their names differ, the first has main, their arrays have at most 262,144 elements together, and each file is as it must be.
abbrev pub ok : Prog → Bool
ok p =
    once (file_names p) && (
    has_main p && (
    leb (totals p) 262144 &&
    ok_fs p p))
