-- No function of a text's program has more than 593 values that wait at once: each of the 39 brackets within a body adds at most 15.
-- Rests on BracketsShut and Arity.
use mathlib.Core.Path.{◌≡◌, refl}
use mathlib.Core.List.{List, ◌∷◌, ◌++◌}
use Prim.Native.Nat.{ℕ, ◌+◌, ◌-◌, ◌*◌, ◌≤◌, max}
use native.Mathlib.Omega.{arith}
use lib.ListN.{length}
use lib.Dec.{leb, T}
use Rattle.language.specs.Syntax.{Name, Expr, Exprs, Stmt, Block, Fn, Item, Prog}
use Rattle.grammar.specs.Text.{Between, plus, minus, times, over, rest, is, isnt, less, most, more, least, both, any, exclusive, left, right, IsExpr, looser, or_e, and_e, two_e, one_e, num_e, var_e, brackets_e, index_e, len_e, call_e, table_e, in_e, AreArgs, none_es, one_es, more_es, IsStmt, set_s, store_s, ex_s, out_s, if_s, ifelse_s, while_s, return_s, break_s, continue_s, IsBlock, end_s, more_s, IsItem, word_i, wide_i, byte_i, data_i, text_i, table_i, use_i, fn_i, AreItems, no_items, more_items, AreFiles, no_files, more_files, flat, calm, pieces, gap, Reads}
use Rattle.grammar.specs.Bounds.{OfItem, FnsI, AllFns, count, deep_e, deep_es, deep_s, deep_b, FewE, FewEs, FewS, FewB}
use Rattle.grammar.proofs.PieceKinds.{and_0, and_1}
use Rattle.grammar.proofs.Arity.{few}
use Rattle.grammar.proofs.BracketsShut.{after1, level, cut, next, plain-name, plain-between, plain-before, shut, even_e, even_es, even_s, even_b, even_pars, even_vars, even_arrs, even_i, even_is}

-- from n open brackets on, never more than 40
pub record Low (n : ℕ) (s : List Name) : Type 0 where
  pub is_low : T (flat n s)

low_cut : {n : ℕ} (s t : List Name) → ((m : ℕ) → level m s ≡ m) → Low n (s ++ t) → Low n s × Low n t
low_cut {n} s t e l = let k = cut n s t (e n) l.is_low in (record { is_low = k.0 }, record { is_low = k.1 })

low_next : {n : ℕ} {w : Name} {t : List Name} (m : ℕ) → after1 n w ≡ m → Low n (w ∷ t) → (n ≤ 40) × Low m t
low_next {n} {w} {t} m e l = let k = next n m w t e l.is_low in (k.0, record { is_low = k.1 })

tight : {l o : ℕ} {w : Name} → Between l w o → (2 ≤ l) × (l ≤ 7)
tight plus = omega arith
tight minus = omega arith
tight times = omega arith
tight over = omega arith
tight rest = omega arith
tight is = omega arith
tight isnt = omega arith
tight less = omega arith
tight most = omega arith
tight more = omega arith
tight least = omega arith
tight both = omega arith
tight any = omega arith
tight exclusive = omega arith
tight left = omega arith
tight right = omega arith

-- each bracket that is still to come adds at most 15, and each of the six kinds of operators one
mutual
  deep-e : {k : ℕ} {s : List Name} {e : Expr} → IsExpr k s e → FewE e → (n : ℕ) → Low n s → deep_e e ≤ 15 * (40 - n) + 1 + (8 - max k 2)
  deep-e (looser h x) f n l = let i = deep-e x f n l in omega arith
  deep-e (or_e {s} x y) f n l = let c = low_cut s _ (even_e x) l in let d = low_next n refl c.1 in let i = deep-e x f.0 n c.0 in let j = deep-e y f.1 n d.1 in omega arith
  deep-e (and_e {s} x y) f n l = let c = low_cut s _ (even_e x) l in let d = low_next n refl c.1 in let i = deep-e x f.0 n c.0 in let j = deep-e y f.1 n d.1 in omega arith
  deep-e (two_e {s} x o y) f n l = let c = low_cut s _ (even_e x) l in let d = low_next n (plain-between o n) c.1 in let i = deep-e x f.0 n c.0 in let j = deep-e y f.1 n d.1 in let b = tight o in omega arith
  deep-e (one_e o x) f n l = let i = deep-e x f n (low_next n (plain-before o n) l).1 in omega arith
  deep-e (num_e h) f n l = omega arith
  deep-e (var_e h) f n l = omega arith
  deep-e (brackets_e {s} x) f n l = let c = low_cut s _ (even_e x) (low_next (n + 1) refl l).1 in let u = (low_next n (shut n) c.1).0 in let i = deep-e x f (n + 1) c.0 in omega arith
  deep-e (index_e {x} {s} h y) f n l = let c = low_cut s _ (even_e y) (low_next (n + 1) refl (low_next n (plain-name x h n) l).1).1 in let u = (low_next n (shut n) c.1).0 in let i = deep-e y f (n + 1) c.0 in omega arith
  deep-e (len_e h) f n l = omega arith
  deep-e (call_e {x} {s} h y) f n l = let c = low_cut s _ (even_es y) (low_next (n + 1) refl (low_next n (plain-name x h n) l).1).1 in let u = (low_next n (shut n) c.1).0 in let i = deep-es y f.1 (n + 1) c.0 in let v = f.0 in omega arith
  deep-e (table_e {x} {s} {t} h y z) f n l =
      let c = low_cut s _ (even_e y) (low_next (n + 1) refl (low_next n (plain-name x h n) (low_next n refl l).1).1).1 in
      let d = low_next n (shut n) c.1 in
      let g = low_cut t _ (even_es z) (low_next (n + 1) refl d.1).1 in
      let u = d.0 in
      let i = deep-e y f.0 (n + 1) c.0 in let j = deep-es z f.2 (n + 1) g.0 in let v = f.1 in omega arith
  deep-e in_e f n l = omega arith

  deep-es : {s : List Name} {es : Exprs} → AreArgs s es → FewEs es → (n : ℕ) → Low n s → deep_es es ≤ count es + (15 * (40 - n) + 6)
  deep-es none_es f n l = omega arith
  deep-es (one_es x) f n l = let i = deep-e x f.0 n l in omega arith
  deep-es (more_es {s} x y) f n l = let c = low_cut s _ (even_e x) l in let d = low_next n refl c.1 in let i = deep-e x f.0 n c.0 in let j = deep-es y f.1 n d.1 in omega arith

mutual
  deep-s : {s : List Name} {a : Stmt} → IsStmt s a → FewS a → (n : ℕ) → Low n s → deep_s a ≤ 15 * (40 - n) + 8
  deep-s (set_s {x} {s} h y) f n l = let c = low_cut s _ (even_e y) (low_next n refl (low_next n (plain-name x h n) l).1).1 in let i = deep-e y f n c.0 in omega arith
  deep-s (store_s {x} {s} {t} h y z) f n l =
      let c = low_cut s _ (even_e y) (low_next (n + 1) refl (low_next n (plain-name x h n) l).1).1 in
      let d = low_next n (shut n) c.1 in
      let g = low_cut t _ (even_e z) (low_next n refl d.1).1 in
      let i = deep-e y f.0 (n + 1) c.0 in let j = deep-e z f.1 n g.0 in omega arith
  deep-s (ex_s {s} x) f n l = let i = deep-e x f n (low_cut s _ (even_e x) l).0 in omega arith
  deep-s (out_s {s} x) f n l = let i = deep-e x f n (low_cut s _ (even_e x) (low_next n refl l).1).0 in omega arith
  deep-s (if_s {s} {t} x y) f n l =
      let c = low_cut s _ (even_e x) (low_next n refl l).1 in
      let d = low_cut t _ (even_b y) (low_next (n + 1) refl c.1).1 in
      let i = deep-e x f.0 n c.0 in let j = deep-b y f.1 (n + 1) d.0 in omega arith
  deep-s (ifelse_s {s} {t} {u} x y z) f n l =
      let c = low_cut s _ (even_e x) (low_next n refl l).1 in
      let d = low_cut t _ (even_b y) (low_next (n + 1) refl c.1).1 in
      let g = low_cut u _ (even_b z) (low_next (n + 1) refl (low_next n refl (low_next n (shut n) d.1).1).1).1 in
      let i = deep-e x f.0 n c.0 in let j = deep-b y f.1 (n + 1) d.0 in let k = deep-b z f.2 (n + 1) g.0 in omega arith
  deep-s (while_s {s} {t} x y) f n l =
      let c = low_cut s _ (even_e x) (low_next n refl l).1 in
      let d = low_cut t _ (even_b y) (low_next (n + 1) refl c.1).1 in
      let i = deep-e x f.0 n c.0 in let j = deep-b y f.1 (n + 1) d.0 in omega arith
  deep-s (return_s {s} x) f n l = let i = deep-e x f n (low_cut s _ (even_e x) (low_next n refl l).1).0 in omega arith
  deep-s break_s f n l = omega arith
  deep-s continue_s f n l = omega arith

  deep-b : {s : List Name} {b : Block} → IsBlock s b → FewB b → (n : ℕ) → Low n s → deep_b b ≤ 15 * (40 - n) + 8
  deep-b end_s f n l = omega arith
  deep-b (more_s {s} x y) f n l = let c = low_cut s _ (even_s x) l in let i = deep-s x f.0 n c.0 in let j = deep-b y f.1 n c.1 in omega arith

abbrev FewFn : Fn → Type 0
FewFn g = FewB g.body

abbrev DeepFn : Fn → Type 0
DeepFn g = deep_b g.body ≤ 593

deep_i : {s : List Name} {i : Item} → IsItem s i → OfItem FewFn i → Low 0 s → OfItem DeepFn i
deep_i (word_i h) f l = tt
deep_i (wide_i h k) f l = tt
deep_i (byte_i h k) f l = tt
deep_i (data_i h y) f l = tt
deep_i (text_i h) f l = tt
deep_i (table_i h y) f l = tt
deep_i (use_i h y) f l = tt
deep_i (fn_i {x} {s} {t} {u} {v} h a b c d) f l =
    let l1 = (low_next 1 refl (low_next 0 (plain-name x h 0) (low_next 0 refl l).1).1).1 in
    let l2 = (low_next 1 refl (low_next 0 refl (low_cut s _ (even_pars a) l1).1).1).1 in
    let l3 = (low_cut u _ (even_arrs c) (low_cut t _ (even_vars b) l2).1).1 in
    deep-b d f 1 (low_cut v _ (even_b d) l3).0

deep_is : {s : List Name} {is : List Item} → AreItems s is → FnsI FewFn is → Low 0 s → FnsI DeepFn is
deep_is no_items f l = tt
deep_is (more_items {s} x y) f l = let c = low_cut s _ (even_i x) l in (deep_i x f.0 c.0, deep_is y f.1 c.1)

deep_fs : {s : List Name} {p : Prog} → AreFiles s p → AllFns p FewFn → Low 0 s → AllFns p DeepFn
deep_fs no_files f l = tt
deep_fs (more_files {x} {s} h y z) f l =
    let c = low_cut s _ (even_is y) (low_next 0 refl (low_next 0 (plain-name x h 0) (low_next 0 refl l).1).1).1 in
    (deep_is y f.0 c.0, deep_fs z f.1 c.1)

pub deep-bound : (t : List ℕ) (p : Prog) → Reads t p → AllFns p (λ g. deep_b g.body ≤ 593)
deep-bound t p r =
    let h = and_1 (leb (length t) 32768) _ r.small in
    deep_fs r.said (few p r.sound) (record { is_low = and_0 (flat 0 (pieces gap t)) (calm 0 (pieces gap t)) h })
