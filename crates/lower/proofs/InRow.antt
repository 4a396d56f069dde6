-- Where the instructions of steps and functions stand, and what steps keep to.
use mathlib.Core.Path.{◌≡◌}
use mathlib.Core.List.{List, [], ◌∷◌}
use lib.ListN.{length}
use mathlib.Core.Option.{some}
use Prim.Native.Nat.{ℕ, zero, suc, ◌+◌, ◌≤◌, ◌<◌}
use Rattle.language.specs.Syntax.{nth}
use Rattle.language.specs.Words.{all}
use Rattle.steps.specs.Steps.{Step, s_num, s_copy, s_bin, s_un, s_flag, s_getw, s_setw, s_jump, s_jz, s_call, s_out, s_ret, s_table, s_in, s_idx, s_put, s_len, Opnd, o_top, o_own, MFn, MProg}
use Rattle.lower.specs.Code.{LI}
use Rattle.lower.proofs.Lists.{none-some}
use Rattle.lower.specs.Lower.{lens, size_of, slots, frame_size, lower, prologue, stub, fun_of, others}

-- a row stands at a place of another; and the place behind it
abbrev pub Seg : List LI → ℕ → List LI → Type 0
Seg row p [] = Unit {0}
Seg row p (i ∷ is) = (nth row p ≡ some i) × Seg row (suc p) is

abbrev pub past : ℕ → List LI → ℕ
past p [] = p
past p (i ∷ is) = past (suc p) is

-- a function but the one that only calls the main one
pub fun_nth : (m : MProg) (g : ℕ) (f : MFn) → fun_of m g ≡ some f → nth m.funs g ≡ some f
fun_nth m zero f e = none-some f e
fun_nth m (suc g) f e = go m.funs e
  where
    go : (fs : List MFn) → nth (others fs) g ≡ some f → nth fs (suc g) ≡ some f
    go [] q = q
    go (x ∷ fs) q = q

-- a step of a function with n places keeps to them, its number is a word, a word that it sets is there, and a call has the arguments that its function takes
abbrev pub TopArr : MProg → Opnd → Type 0
TopArr m (o_top a) = (a < length m.arrays) × (size_of (lens m.arrays) a < all)
TopArr m (o_own j) = ⊥

abbrev pub Firm : MProg → ℕ → Step → Type 0
Firm m n (s_num d k) = (d < n) × (k < all)
Firm m n (s_copy d a) = (d < n) × (a < n)
Firm m n (s_bin o d a b) = (d < n) × (a < n) × (b < n)
Firm m n (s_un o d a) = (d < n) × (a < n)
Firm m n (s_flag d a) = (d < n) × (a < n)
Firm m n (s_getw d i) = d < n
Firm m n (s_setw i a) = (a < n) × (i < m.words)
Firm m n (s_jump t) = Unit {0}
Firm m n (s_jz a t) = a < n
Firm m n (s_call d g k i os) = (d < n) × (k + i ≤ n) × (os ≡ []) × ((h : MFn) × (fun_of m g ≡ some h) × (h.params ≡ i))
Firm m n (s_out a) = a < n
Firm m n (s_ret a) = a < n
Firm m n (s_table d i t k j os) = (d < n) × (i < n) × (k + j ≤ n) × (os ≡ []) × ((hs : List ℕ) × (nth m.tables t ≡ some hs) × (1 ≤ length hs) × ((l g : ℕ) → nth hs l ≡ some g → (h : MFn) × (fun_of m g ≡ some h) × (h.params ≡ j)))
Firm m n (s_in d) = d < n
Firm m n (s_idx d o i) = (d < n) × (i < n) × TopArr m o
Firm m n (s_put w o i b) = (i < n) × (b < n) × TopArr m o
Firm m n (s_len d o) = (d < n) × TopArr m o

-- what the functions keep to
pub record Neat (m : MProg) (f : MFn) : Type 0 where
  pub few : f.params ≤ 8
  pub fits : slots f ≤ 1022
  pub costs : frame_size f ≤ f.cost
  pub some_places : f.params + f.vars ≤ slots f
  pub no_own : f.own ≡ []
  pub firm : (i : ℕ) (s : Step) → nth f.code i ≡ some s → Firm m (slots f) s

-- the functions stand in the row
pub record Laid (m : MProg) (row : List LI) (entry : ℕ → ℕ) (at : ℕ → ℕ → ℕ) (exit : ℕ) : Type 0 where
  pub begins : (g : ℕ) (f : MFn) → fun_of m g ≡ some f → Seg row (entry g) (prologue (entry g) f)
  pub first : (g : ℕ) (f : MFn) → fun_of m g ≡ some f → past (entry g) (prologue (entry g) f) ≡ at g 0
  pub has : (g i : ℕ) (f : MFn) (s : Step) → fun_of m g ≡ some f → nth f.code i ≡ some s → Seg row (at g i) (lower entry (at g) m f (at g i) s)
  pub goes_on : (g i : ℕ) (f : MFn) (s : Step) → fun_of m g ≡ some f → nth f.code i ≡ some s → past (at g i) (lower entry (at g) m f (at g i) s) ≡ at g (suc i)
  pub neat : (g : ℕ) (f : MFn) → fun_of m g ≡ some f → Neat m f
  pub ends : Seg row exit stub
