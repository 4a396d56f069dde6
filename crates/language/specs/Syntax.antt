-- Programs as trees: expressions, statements, functions, files; and the stage of each form. All that is said of programs is said of these trees.
use Rattle.std.specs.Prelude.{Bool, true, false, ◌&&◌, ◌||◌, List, [], ◌∷◌, ℕ, zero, suc, max, eqb}
use Rattle.std.proofs.Math.Option.{Option, some, none}

-- the first if the test holds, else the second
abbrev pub pick : {A : Type 0} → Bool → A → A → A
pick true a b = a
pick false a b = b

-- what to do with what was found, after what to give if nothing was
abbrev pub opt : {A C : Type 0} → Option A → C → (A → C) → C
opt none c f = c
opt (some x) c f = f x

-- the element with a number, counted from 0; and the list with that element replaced, the same list if there is none
abbrev pub nth : {A : Type 0} → List A → ℕ → Option A
nth [] n = none
nth (x ∷ xs) zero = some x
nth (x ∷ xs) (suc n) = nth xs n

abbrev pub put : {A : Type 0} → List A → ℕ → A → List A
put [] n v = []
put (x ∷ xs) zero v = v ∷ xs
put (x ∷ xs) (suc n) v = x ∷ put xs n v

-- a name is the bytes of its letters
abbrev pub Name : Type 0
Name = List ℕ

abbrev pub same : Name → Name → Bool
same [] [] = true
same [] (y ∷ ys) = false
same (x ∷ xs) [] = false
same (x ∷ xs) (y ∷ ys) = eqb x y && same xs ys

abbrev pub listed : Name → List Name → Bool
listed x [] = false
listed x (y ∷ ys) = same y x || listed x ys

-- Operators are numbered.
-- between two:  0 +   1 -   2 *   3 /   4 %   5 ==   6 !=   7 <   8 <=   9 >   10 >=   11 &   12 |   13 ^   14 <<   15 >>
-- before one:   0 -   1 !   2 ~
mutual
  pub data Expr : Type 0 where
    num : ℕ → Expr  -- 7
    var : Name → Expr  -- x
    bin : ℕ → Expr → Expr → Expr  -- x + y
    un : ℕ → Expr → Expr  -- !x
    and1 : Expr → Expr → Expr  -- x && y
    or1 : Expr → Expr → Expr  -- x || y
    idx : Name → Expr → Expr  -- a[i]
    len : Name → Expr  -- len(a)
    call : Name → Exprs → Expr  -- f(x, y)
    by_table : Name → Expr → Exprs → Expr  -- call t[i](x, y)
    input : Expr  -- in()

  -- the arguments of a call
  pub data Exprs : Type 0 where
    no : Exprs
    and_then : Expr → Exprs → Exprs

mutual
  pub data Stmt : Type 0 where
    set1 : Name → Expr → Stmt  -- x = e;
    store1 : Name → Expr → Expr → Stmt  -- a[i] = e;
    ex1 : Expr → Stmt  -- e;
    out1 : Expr → Stmt  -- out e;
    if1 : Expr → Block → Block → Stmt  -- if e { .. } else { .. }
    while1 : Expr → Block → Stmt  -- while e { .. }
    ret1 : Expr → Stmt  -- return e;
    break1 : Stmt  -- break;
    next1 : Stmt  -- continue;

  -- statements one after another
  pub data Block : Type 0 where
    end : Block
    seq1 : Stmt → Block → Block

-- what a parameter is: a word, or an array of words (true) or of bytes (false)
pub data Kind : Type 0 where
  k_word : Kind
  k_arr : Bool → Kind

pub record Param : Type 0 where
  pub name : Name
  pub kind : Kind

-- an array that is declared with its size: of words if it is wide, else of bytes
pub record Arr : Type 0 where
  pub name : Name
  pub wide : Bool
  pub size : ℕ

-- a function: its parameters, its variables, which are words, its own arrays, its body
pub record Fn : Type 0 where
  pub name : Name
  pub params : List Param
  pub vars : List Name
  pub arrs : List Arr
  pub body : Block

-- what stands at the top of a file
pub data Item : Type 0 where
  i_word : Name → Item  -- var x;
  i_arr : Arr → Item  -- array a[100]; or bytes b[9];
  i_data : Bool → Name → List ℕ → Item  -- array a = 3, 5; (true) or bytes b = "text"; (false)
  i_table : Name → List Name → Item  -- table t = f, g;
  i_fn : Fn → Item  -- fn f(x, a[], b[:]) { .. }
  i_use : Name → List Name → Item  -- use other: x, y;

pub record File : Type 0 where
  pub name : Name
  pub items : List Item

-- files one after another; the first has main
abbrev pub Prog : Type 0
Prog = List File

-- A program's stage is the highest of its forms' stages.
-- 0  the core: one file, words, functions, all operators, out
-- 1  arrays of words at the top, in
-- 2  arrays in functions and as parameters, len
-- 3  several files
-- 4  arrays with values
-- 5  bytes
-- 6  tables of functions
abbrev mutual
  pub stage_e : Expr → ℕ
  stage_e (num n) = 0
  stage_e (var x) = 0
  stage_e (bin o a b) = max (stage_e a) (stage_e b)
  stage_e (un o a) = stage_e a
  stage_e (and1 a b) = max (stage_e a) (stage_e b)
  stage_e (or1 a b) = max (stage_e a) (stage_e b)
  stage_e (idx x e) = max 1 (stage_e e)
  stage_e (len x) = 2
  stage_e (call x es) = stage_es es
  stage_e (by_table x e es) = max 6 (max (stage_e e) (stage_es es))
  stage_e input = 1

  pub stage_es : Exprs → ℕ
  stage_es no = 0
  stage_es (and_then e es) = max (stage_e e) (stage_es es)

abbrev mutual
  pub stage_s : Stmt → ℕ
  stage_s (set1 x e) = stage_e e
  stage_s (store1 x i e) = max 1 (max (stage_e i) (stage_e e))
  stage_s (ex1 e) = stage_e e
  stage_s (out1 e) = stage_e e
  stage_s (if1 e b c) = max (stage_e e) (max (stage_b b) (stage_b c))
  stage_s (while1 e b) = max (stage_e e) (stage_b b)
  stage_s (ret1 e) = stage_e e
  stage_s break1 = 0
  stage_s next1 = 0

  pub stage_b : Block → ℕ
  stage_b end = 0
  stage_b (seq1 s b) = max (stage_s s) (stage_b b)

-- parameters, own arrays, what stands at the top
abbrev pub stage_k : Kind → ℕ
stage_k k_word = 0
stage_k (k_arr true) = 2
stage_k (k_arr false) = 5

abbrev pub stage_ps : List Param → ℕ
stage_ps [] = 0
stage_ps (p ∷ ps) = max (stage_k p.kind) (stage_ps ps)

abbrev pub stage_as : List Arr → ℕ
stage_as [] = 0
stage_as (a ∷ as₁) = max (pick a.wide 2 5) (stage_as as₁)

abbrev pub stage_i : Item → ℕ
stage_i (i_word x) = 0
stage_i (i_arr a) = pick a.wide 1 5
stage_i (i_data w x ns) = pick w 4 5
stage_i (i_table x fs) = 6
stage_i (i_fn f) = max (stage_ps f.params) (max (stage_as f.arrs) (stage_b f.body))
stage_i (i_use x ys) = 3

abbrev pub stage_is : List Item → ℕ
stage_is [] = 0
stage_is (i ∷ is) = max (stage_i i) (stage_is is)

abbrev pub stage_fs : Prog → ℕ
stage_fs [] = 0
stage_fs (f ∷ fs) = max (stage_is f.items) (stage_fs fs)

-- two files and more are of stage 3 even if they use nothing of one another
abbrev pub stage : Prog → ℕ
stage [] = 0
stage (f ∷ []) = stage_is f.items
stage (f ∷ g ∷ fs) = max 3 (stage_fs (f ∷ g ∷ fs))
