-- In a program that the checks accept each call has at most 8 arguments, and what the checks ask of each function holds of all.
-- Rests on Checks; the bounds on depth and on frames need it.
use mathlib.Core.Bool.{Bool, true, false, ◌&&◌}
use mathlib.Core.List.{List, [], ◌∷◌, ◌++◌}
use mathlib.Core.Option.{Option, some, none}
use Prim.Native.Nat.{ℕ, ◌+◌, ◌≤◌}
use native.Mathlib.Omega.{arith}
use lib.ListN.{length}
use lib.Dec.{leb, T, leb→le}
use Rattle.language.specs.Syntax.{pick, opt, Name, same, Expr, num, var, bin, un, and1, or1, idx, len, call, by_table, input, Exprs, no, and_then, Stmt, set1, store1, ex1, out1, if1, while1, ret1, break1, next1, Block, end, seq1, Kind, k_word, k_arr, Param, Fn, Item, i_word, i_arr, i_data, i_table, i_fn, i_use, Prog}
use Rattle.language.specs.Meaning.{Is, is_word, is_arr, is_table, is_fn, Top, tops, used_in, items_of, resolve, top_of, all_tops, as_fn, as_table, or_else, on_some}
use Rattle.language.specs.Checks.{fits_arg, first_k, rest_k, fn_named, is_local, params_of, head_fn, params_of_table, ok_e, ok_es, ok_s, ok_b, ok_fn, ok_item, ok_is, ok_fs, ok, names_arr, sizes, once, param_names, arr_names, file_names, has_main, totals}
use Rattle.grammar.specs.Bounds.{FnsI, AllFns, count, FewE, FewEs, FewS, FewB}

-- a test of two parts
pub both_t : (a b : Bool) → T (a && b) → T a × T b
both_t true b h = (tt, h)
both_t false b h = absurd h

-- what holds of what is there, if it is
abbrev pub OnSome : {A : Type 0} → (A → Type 0) → Option A → Type 0
OnSome P none = Unit {0}
OnSome P (some x) = P x

on-pick : {A : Type 0} (P : A → Type 0) (b : Bool) (x y : Option A) → OnSome P x → OnSome P y → OnSome P (pick b x y)
on-pick P true x y h k = h
on-pick P false x y h k = k

on_else : {A : Type 0} (P : A → Type 0) (x y : Option A) → OnSome P x → OnSome P y → OnSome P (or_else x y)
on_else P none y h k = k
on_else P (some a) y h k = h

on-on : {A C : Type 0} (P : A → Type 0) (Q : C → Type 0) (o : Option A) (f : A → Option C) → OnSome P o → ((a : A) → P a → OnSome Q (f a)) → OnSome Q (on_some o f)
on-on P Q none f h k = tt
on-on P Q (some a) f h k = k a h

on-any : {A : Type 0} (o : Option A) → OnSome (λ a. Unit {0}) o
on-any none = tt
on-any (some a) = tt

on-opt : {A : Type 0} (P : A → Type 0) (o : Option A) (k : A → Bool) → OnSome P o → T (opt o false k) → (a : A) × P a × T (k a)
on-opt P none k h t = absurd t
on-opt P (some a) k h t = (a, h, t)

module _ (P : Fn → Type 0) where
  abbrev pub OfIs : Is → Type 0
  OfIs (is_word i) = Unit {0}
  OfIs (is_arr a w) = Unit {0}
  OfIs (is_table fs) = Unit {0}
  OfIs (is_fn g) = P g

  abbrev pub OfTop : Top → Type 0
  OfTop t = OfIs t.is

  abbrev pub OfTops : List Top → Type 0
  OfTops [] = Unit {0}
  OfTops (t ∷ ts) = OfTop t × OfTops ts

  pub of_++ : (s t : List Top) → OfTops s → OfTops t → OfTops (s ++ t)
  of_++ [] t h k = k
  of_++ (x ∷ s) t h k = (h.0, of_++ s t h.1 k)

  of_tops : (f : Name) (is : List Item) (w a : ℕ) → FnsI P is → OfTops (tops f is w a)
  of_tops f [] w a h = tt
  of_tops f (i_word x ∷ is) w a h = (tt, of_tops f is (w + 1) a h.1)
  of_tops f (i_arr r ∷ is) w a h = (tt, of_tops f is w (a + 1) h.1)
  of_tops f (i_data d x ns ∷ is) w a h = (tt, of_tops f is w (a + 1) h.1)
  of_tops f (i_table x fs ∷ is) w a h = (tt, of_tops f is w a h.1)
  of_tops f (i_fn g ∷ is) w a h = (h.0, of_tops f is w a h.1)
  of_tops f (i_use x ys ∷ is) w a h = of_tops f is w a h.1

  pub of_all : (p : Prog) (w a : ℕ) → AllFns p P → OfTops (all_tops p w a)
  of_all [] w a h = tt
  of_all (f ∷ fs) w a h = of_++ (tops f.name f.items w a) _ (of_tops f.name f.items w a h.0) (of_all fs _ _ h.1)

  pub of_top_of : (ts : List Top) (f x : Name) → OfTops ts → OnSome OfTop (top_of ts f x)
  of_top_of [] f x h = tt
  of_top_of (t ∷ ts) f x h = on-pick OfTop (same t.file f && same t.name x) (some t) (top_of ts f x) h.0 (of_top_of ts f x h.1)

  pub of_resolve : (p : Prog) (f x : Name) → AllFns p P → OnSome OfTop (resolve p f x)
  of_resolve p f x h = on_else OfTop (top_of (all_tops p 0 0) f x) _ (of_top_of _ f x (of_all p 0 0 h)) (on-on (λ y. Unit {0}) OfTop (used_in (items_of p f) x) _ (on-any _) (λ g u. of_top_of _ g x (of_all p 0 0 h)))

  of_as_fn : (t : Top) → OfTop t → OnSome P (as_fn t)
  of_as_fn t h = go t.is h
    where
      go : (i : Is) → OfIs i → OnSome P (as_fn (record { file = t.file; name = t.name; is = i }))
      go (is_word i) u = tt
      go (is_arr a w) u = tt
      go (is_table fs) u = tt
      go (is_fn g) u = u

  pub of_named : (p : Prog) (f x : Name) → AllFns p P → OnSome P (fn_named p f x)
  of_named p f x h = on-on OfTop P (resolve p f x) as_fn (of_resolve p f x h) of_as_fn

abbrev pub Eight : List Param → Type 0
Eight qs = length qs ≤ 8

abbrev pub EightFn : Fn → Type 0
EightFn g = length g.params ≤ 8

module _ (p : Prog) (all8 : AllFns p EightFn) where
  eight_params : (f : Name) (g : Fn) (x : Name) → OnSome Eight (params_of p f g x)
  eight_params f g x = on-pick Eight (is_local g x) none _ tt (on-on EightFn Eight (fn_named p f x) _ (of_named EightFn p f x all8) (λ h u. u))

  eight_head : (f : Name) (xs : List Name) → OnSome Eight (head_fn p f xs)
  eight_head f [] = tt
  eight_head f (x ∷ xs) = on-on EightFn Eight (fn_named p f x) _ (of_named EightFn p f x all8) (λ h u. u)

  eight_table : (f : Name) (g : Fn) (x : Name) → OnSome Eight (params_of_table p f g x)
  eight_table f g x = on-pick Eight (is_local g x) none _ tt (on-on (λ t. Unit {0}) Eight (resolve p f x) _ (on-any _) (λ t u. on-on (λ fs. Unit {0}) Eight (as_table t) _ (on-any _) (λ fs v. eight_head t.file fs)))

  few_arr : (f : Name) (g : Fn) (w : Bool) (e : Expr) → T (names_arr p f g w e) → FewE e
  few_arr f g w (num n) h = tt
  few_arr f g w (var x) h = tt
  few_arr f g w (bin o a b) h = absurd h
  few_arr f g w (un o a) h = absurd h
  few_arr f g w (and1 a b) h = absurd h
  few_arr f g w (or1 a b) h = absurd h
  few_arr f g w (idx x e) h = absurd h
  few_arr f g w (len x) h = tt
  few_arr f g w (call x es) h = absurd h
  few_arr f g w (by_table x e es) h = absurd h
  few_arr f g w input h = tt

  few_arg : (f : Name) (g : Fn) (e : Expr) (b : Bool) (k : Option Kind) → (T b → FewE e) → T (fits_arg p f g e b k) → FewE e
  few_arg f g e b none i h = absurd h
  few_arg f g e b (some k_word) i h = i h
  few_arg f g e b (some (k_arr w)) i h = few_arr f g w e h

  count_is : (f : Name) (g : Fn) (qs : List Param) (es : Exprs) → T (ok_es p f g qs es) → count es ≤ length qs
  count_is f g qs no h = omega arith
  count_is f g [] (and_then e es) h = absurd h
  count_is f g (q ∷ qs) (and_then e es) h = let k = count_is f g qs es (both_t (fits_arg p f g e (ok_e p f g e) (some q.kind)) _ h).1 in omega arith

  mutual
    few_e : (f : Name) (g : Fn) (e : Expr) → T (ok_e p f g e) → FewE e
    few_e f g (num n) h = tt
    few_e f g (var x) h = tt
    few_e f g (bin o a b) h = let k = both_t (ok_e p f g a) _ h in (few_e f g a k.0, few_e f g b k.1)
    few_e f g (un o a) h = few_e f g a h
    few_e f g (and1 a b) h = let k = both_t (ok_e p f g a) _ h in (few_e f g a k.0, few_e f g b k.1)
    few_e f g (or1 a b) h = let k = both_t (ok_e p f g a) _ h in (few_e f g a k.0, few_e f g b k.1)
    few_e f g (idx x e) h = few_e f g e (both_t _ (ok_e p f g e) h).1
    few_e f g (len x) h = tt
    few_e f g (call x es) h = let k = on-opt Eight (params_of p f g x) (λ qs. ok_es p f g qs es) (eight_params f g x) h in let c = count_is f g k.0 es k.2 in let l = k.1 in (omega arith, few_es f g k.0 es k.2)
    few_e f g (by_table x e es) h = let b = both_t (ok_e p f g e) _ h in let k = on-opt Eight (params_of_table p f g x) (λ qs. ok_es p f g qs es) (eight_table f g x) b.1 in let c = count_is f g k.0 es k.2 in let l = k.1 in (few_e f g e b.0, omega arith, few_es f g k.0 es k.2)
    few_e f g input h = tt

    few_es : (f : Name) (g : Fn) (qs : List Param) (es : Exprs) → T (ok_es p f g qs es) → FewEs es
    few_es f g qs no h = tt
    few_es f g qs (and_then e es) h = let k = both_t (fits_arg p f g e (ok_e p f g e) (first_k qs)) _ h in (few_arg f g e (ok_e p f g e) (first_k qs) (few_e f g e) k.0, few_es f g (rest_k qs) es k.1)

  mutual
    few_s : (f : Name) (g : Fn) (l : Bool) (s : Stmt) → T (ok_s p f g l s) → FewS s
    few_s f g l (set1 x e) h = few_e f g e (both_t _ (ok_e p f g e) h).1
    few_s f g l (store1 x i e) h = let k = both_t (ok_e p f g i) (ok_e p f g e) (both_t _ (ok_e p f g i && ok_e p f g e) h).1 in (few_e f g i k.0, few_e f g e k.1)
    few_s f g l (ex1 e) h = few_e f g e h
    few_s f g l (out1 e) h = few_e f g e h
    few_s f g l (if1 e a b) h = let j = both_t (ok_e p f g e) (ok_b p f g l a && ok_b p f g l b) h in let k = both_t (ok_b p f g l a) _ j.1 in (few_e f g e j.0, few_b f g l a k.0, few_b f g l b k.1)
    few_s f g l (while1 e b) h = let j = both_t (ok_e p f g e) _ h in (few_e f g e j.0, few_b f g true b j.1)
    few_s f g l (ret1 e) h = few_e f g e h
    few_s f g l break1 h = tt
    few_s f g l next1 h = tt

    few_b : (f : Name) (g : Fn) (l : Bool) (b : Block) → T (ok_b p f g l b) → FewB b
    few_b f g l end h = tt
    few_b f g l (seq1 s b) h = let k = both_t (ok_s p f g l s) _ h in (few_s f g l s k.0, few_b f g l b k.1)

  few_fn : (f : Name) (g : Fn) → T (ok_fn p f g) → FewB g.body
  few_fn f g h =
      let h1 = (both_t (leb (length g.params) 8) _ h).1 in
      let h2 = (both_t (leb (length g.vars) 64) _ h1).1 in
      let h3 = (both_t (leb (length g.arrs) 16) _ h2).1 in
      let h4 = (both_t (sizes 4096 g.arrs) _ h3).1 in
      few_b f g false g.body (both_t (once (param_names g.params ++ (g.vars ++ arr_names g.arrs))) _ h4).1

-- what each checked function has, all functions have
module _ (p : Prog) (P : Fn → Type 0) (one : (f : Name) (g : Fn) → T (ok_fn p f g) → P g) where
  all_is : (f : Name) (is : List Item) → T (ok_is p f is) → FnsI P is
  all_is f [] h = tt
  all_is f (i_word x ∷ is) h = (tt, all_is f is h)
  all_is f (i_arr a ∷ is) h = (tt, all_is f is (both_t (ok_item p f (i_arr a)) _ h).1)
  all_is f (i_data w x ns ∷ is) h = (tt, all_is f is (both_t (ok_item p f (i_data w x ns)) _ h).1)
  all_is f (i_table x fs ∷ is) h = (tt, all_is f is (both_t (ok_item p f (i_table x fs)) _ h).1)
  all_is f (i_fn g ∷ is) h = let k = both_t (ok_fn p f g) _ h in (one f g k.0, all_is f is k.1)
  all_is f (i_use y xs ∷ is) h = (tt, all_is f is (both_t (ok_item p f (i_use y xs)) _ h).1)

  all_fs : (fs : Prog) → T (ok_fs p fs) → AllFns fs P
  all_fs [] h = tt
  all_fs (f ∷ fs) h = let k = both_t (ok_is p f.name f.items) _ (both_t _ (ok_is p f.name f.items && ok_fs p fs) h).1 in (all_is f.name f.items k.0, all_fs fs k.1)

  pub all_ok : T (ok p) → AllFns p P
  all_ok h =
      let h1 = (both_t (once (file_names p)) _ h).1 in
      let h2 = (both_t (has_main p) _ h1).1 in
      all_fs p (both_t (leb (totals p) 262144) _ h2).1

pub eight : (p : Prog) → T (ok p) → AllFns p EightFn
eight p = all_ok p EightFn (λ f g h. leb→le (length g.params) 8 (both_t (leb (length g.params) 8) _ h).0)

pub few : (p : Prog) → T (ok p) → AllFns p (λ g. FewB g.body)
few p h = all_ok p (λ g. FewB g.body) (few_fn p (eight p h)) h
