-- The checks of a body say of each of its nodes that its number is a word and that what it calls is known.
use Rattle.std.proofs.Common.{◌≡◌, Bool, true, false, ◌&&◌, List, [], ◌∷◌, ltb-true}
use mathlib.Core.Bool.{false≢true}
use mathlib.Core.Option.{Option, some, none}
use Rattle.language.specs.Syntax.{opt, Name, Expr, num, var, bin, un, and1, or1, idx, len, call, by_table, input, Exprs, no as no_args, and_then, Stmt, set1, store1, ex1, out1, if1, while1, ret1, break1, next1, Block, end, seq1, Kind, k_word, k_arr, Param, Fn, Prog}
use Rattle.language.specs.Words.{all}
use Rattle.language.specs.Meaning.{on_some, resolve, as_fn, as_table}
use Rattle.language.specs.Checks.{kind_of, is_kind, any_arr, names_arr, fits_arg, first_k, rest_k, fn_named, is_local, params_of, head_fn, params_of_table, same_ps, alike, ok_e, ok_es, ok_s, ok_b, ok_fn}
use Rattle.rows.specs.Nodes.{Node, nodes_e, nodes_es, nodes_s, nodes_bs, nodes_b, count, n_bin, n_and, n_or, n_join, n_un, n_idx, n_call, n_by, n_set, n_store, n_ex, n_out, n_if, n_else, n_fi, n_while, n_again, n_ret, n_end}
use Rattle.steps.specs.Fits.{Each}
use Rattle.steps.proofs.Checked.{and-true, opt_true, some_then, not_local, body_ok}
use Rattle.resolver.specs.Sound.{Known, Checked}

-- a function, and what a function calls, by itself or through a table
pub known_fn : (p : Prog) (f x : Name) {h : Fn} → fn_named p f x ≡ some h → Known p f x
known_fn p f x e = let a = some_then (resolve p f x) as_fn e in record { top = a.0; is = a.1 }

known_call : (p : Prog) (f : Name) (g : Fn) (x : Name) {qs : List Param} → params_of p f g x ≡ some qs → Known p f x
known_call p f g x e = known_fn p f x (some_then (fn_named p f x) (λ h. some h.params) (not_local (is_local g x) _ e)).1

known_table : (p : Prog) (f : Name) (g : Fn) (x : Name) {qs : List Param} → params_of_table p f g x ≡ some qs → Known p f x
known_table p f g x e =
    let a = some_then (resolve p f x) (λ t. on_some (as_table t) (λ fs. head_fn p t.file fs)) (not_local (is_local g x) _ e) in
    record { top = a.0; is = a.1 }

-- the functions of a table
pub known_alike : (p : Prog) (f x : Name) (qs : List Param) (xs : List Name) → alike p f qs (x ∷ xs) ≡ true → Known p f x
known_alike p f x qs xs e = known_fn p f x (opt_true (fn_named p f x) (λ h. same_ps qs h.params) (and-true (opt (fn_named p f x) false (λ h. same_ps qs h.params)) _ e).0).1

module _ (p : Prog) (f : Name) (g : Fn) where
  -- whatever the checks say of an expression, or of a name that is passed on
  abbrev OfE : Expr → Type 0
  OfE e = (a : Bool) (ns : List Node) → Each (Checked p f) ns → Each (Checked p f) (nodes_e a e ns)

  of_var : (x : Name) → OfE (var x)
  of_var x true ns k = (tt, k)
  of_var x false ns k = (tt, k)

  of_array : (w : Bool) (e : Expr) → names_arr p f g w e ≡ true → OfE e
  of_array w (num n) h = absurd (false≢true h)
  of_array w (var x) h = of_var x
  of_array w (bin o a b) h = absurd (false≢true h)
  of_array w (un o a) h = absurd (false≢true h)
  of_array w (and1 a b) h = absurd (false≢true h)
  of_array w (or1 a b) h = absurd (false≢true h)
  of_array w (idx x e) h = absurd (false≢true h)
  of_array w (len x) h = absurd (false≢true h)
  of_array w (call x es) h = absurd (false≢true h)
  of_array w (by_table x e es) h = absurd (false≢true h)
  of_array w input h = absurd (false≢true h)

  of_arg : (e : Expr) (b : Bool) (k : Option Kind) → (b ≡ true → OfE e) → fits_arg p f g e b k ≡ true → OfE e
  of_arg e b none i h = absurd (false≢true h)
  of_arg e b (some k_word) i h = i h
  of_arg e b (some (k_arr w)) i h = of_array w e h

  mutual
    checked_e : (e : Expr) → ok_e p f g e ≡ true → OfE e
    checked_e (num n) h a ns k = (ltb-true n all h, k)
    checked_e (var x) h a ns k = of_var x a ns k
    checked_e (bin o e d) h a ns k = let z = and-true (ok_e p f g e) (ok_e p f g d) h in checked_e e z.0 false (nodes_e false d (n_bin o ∷ ns)) (checked_e d z.1 false (n_bin o ∷ ns) (tt, k))
    checked_e (un o e) h a ns k = checked_e e h false (n_un o ∷ ns) (tt, k)
    checked_e (and1 e d) h a ns k = let z = and-true (ok_e p f g e) (ok_e p f g d) h in checked_e e z.0 false (n_and ∷ nodes_e false d (n_join ∷ ns)) (tt, checked_e d z.1 false (n_join ∷ ns) (tt, k))
    checked_e (or1 e d) h a ns k = let z = and-true (ok_e p f g e) (ok_e p f g d) h in checked_e e z.0 false (n_or ∷ nodes_e false d (n_join ∷ ns)) (tt, checked_e d z.1 false (n_join ∷ ns) (tt, k))
    checked_e (idx x e) h a ns k = checked_e e (and-true (any_arr (kind_of p f g x)) (ok_e p f g e) h).1 false (n_idx x ∷ ns) (tt, k)
    checked_e (len x) h a ns k = (tt, k)
    checked_e (call x es) h a ns k =
        let z = opt_true (params_of p f g x) (λ qs. ok_es p f g qs es) h in
        checked_es es z.0 z.2 (n_call (count es) x ∷ ns) (known_call p f g x z.1, k)
    checked_e (by_table x e es) h a ns k =
        let y = and-true (ok_e p f g e) (opt (params_of_table p f g x) false (λ qs. ok_es p f g qs es)) h in
        let z = opt_true (params_of_table p f g x) (λ qs. ok_es p f g qs es) y.1 in
        checked_e e y.0 false (nodes_es es (n_by (count es) x ∷ ns)) (checked_es es z.0 z.2 (n_by (count es) x ∷ ns) (known_table p f g x z.1, k))
    checked_e input h a ns k = (tt, k)

    checked_es : (es : Exprs) (qs : List Param) → ok_es p f g qs es ≡ true → (ns : List Node) → Each (Checked p f) ns → Each (Checked p f) (nodes_es es ns)
    checked_es no_args qs h ns k = k
    checked_es (and_then e es) qs h ns k =
        let z = and-true (fits_arg p f g e (ok_e p f g e) (first_k qs)) (ok_es p f g (rest_k qs) es) h in
        of_arg e (ok_e p f g e) (first_k qs) (checked_e e) z.0 true (nodes_es es ns) (checked_es es (rest_k qs) z.1 ns k)

  mutual
    checked_s : (l : Bool) (s : Stmt) → ok_s p f g l s ≡ true → (ns : List Node) → Each (Checked p f) ns → Each (Checked p f) (nodes_s s ns)
    checked_s l (set1 x e) h ns k = checked_e e (and-true (is_kind (kind_of p f g x) k_word) (ok_e p f g e) h).1 false (n_set x ∷ ns) (tt, k)
    checked_s l (store1 x i e) h ns k =
        let z = and-true (ok_e p f g i) (ok_e p f g e) (and-true (any_arr (kind_of p f g x)) (ok_e p f g i && ok_e p f g e) h).1 in
        checked_e i z.0 false (nodes_e false e (n_store x ∷ ns)) (checked_e e z.1 false (n_store x ∷ ns) (tt, k))
    checked_s l (ex1 e) h ns k = checked_e e h false (n_ex ∷ ns) (tt, k)
    checked_s l (out1 e) h ns k = checked_e e h false (n_out ∷ ns) (tt, k)
    checked_s l (if1 e b c) h ns k =
        let y = and-true (ok_e p f g e) (ok_b p f g l b && ok_b p f g l c) h in
        let z = and-true (ok_b p f g l b) (ok_b p f g l c) y.1 in
        checked_e e y.0 false (n_if ∷ nodes_bs b (n_else ∷ nodes_bs c (n_fi ∷ ns))) (tt, checked_b l b z.0 (n_else ∷ nodes_bs c (n_fi ∷ ns)) (tt, checked_b l c z.1 (n_fi ∷ ns) (tt, k)))
    checked_s l (while1 e b) h ns k =
        let y = and-true (ok_e p f g e) (ok_b p f g true b) h in
        (tt, checked_e e y.0 false (n_while ∷ nodes_bs b (n_again ∷ ns)) (tt, checked_b true b y.1 (n_again ∷ ns) (tt, k)))
    checked_s l (ret1 e) h ns k = checked_e e h false (n_ret ∷ ns) (tt, k)
    checked_s l break1 h ns k = (tt, k)
    checked_s l next1 h ns k = (tt, k)

    checked_b : (l : Bool) (b : Block) → ok_b p f g l b ≡ true → (ns : List Node) → Each (Checked p f) ns → Each (Checked p f) (nodes_bs b ns)
    checked_b l end h ns k = k
    checked_b l (seq1 s b) h ns k = let z = and-true (ok_s p f g l s) (ok_b p f g l b) h in checked_s l s z.0 (nodes_bs b ns) (checked_b l b z.1 ns k)

  pub checked_body : ok_fn p f g ≡ true → Each (Checked p f) (nodes_b g.body)
  checked_body h = checked_b false g.body (body_ok p f g h) (n_end ∷ []) (tt, tt)
