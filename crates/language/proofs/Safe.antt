-- No program that the checks accept comes to where nothing is meant; and its states stay well typed, with small words if those to
-- read are. By induction on the depth, one lemma for each form; the laws NeverWrong and Further follow.
use mathlib.Core.Path.{◌≡◌, refl, sym, ◌∙◌, ap, subst}
use mathlib.Core.Bool.{Bool, true, false, ◌&&◌, not}
use mathlib.Core.List.{List, [], ◌∷◌, ◌++◌, append_assoc, append-nil}
use mathlib.Core.Option.{Option, some, none}
use Prim.Native.Nat.{ℕ, zero, suc}
use native.Mathlib.Omega.{arith as lin}
use lib.ListN.{length, length-replicate}
use lib.Dec.{T, lit<, ltb→lt, leb→le, eqb, leb}
use Rattle.language.specs.Syntax.{pick, opt, nth, put, Name, listed, Expr, num, var, bin, un, and1, or1, idx, len, call, by_table, input, Exprs, no, and_then, Stmt, set1, store1, ex1, out1, if1, while1, ret1, break1, next1, Block, end, seq1, Kind, k_word, k_arr, Param, Fn, Prog}
use Rattle.language.specs.Meaning.{Is, is_word, is_arr, is_table, is_fn, Top, on_some, or_else, resolve, all_words, all_arrays, as_fn, as_table, as_word, State, Value, word, array, get_b, set_b, with_vars, with_words, Result, val, vals, fine, broke, goes_on, gives, trap, spent, wrong, on_val, on_vals, on_fine, on_round, on_end, back, div0, arith, either, t_e, t_es, t_s, t_b, t_call, Go, reads, reads_from, calls, evals, lists, assigns, does, runs, run, enter, begin, means, first_file, w_main, top_of, all_tops}
use Rattle.language.specs.Checks.{ok, once, file_names, has_main, totals, ok_fs, ok_fn, ok_e, ok_es, ok_s, ok_b, fits_arg, names_arr, is_kind, kind_of, kind_is, any_arr, params_of, params_of_table, is_local, fn_named, head_fn, alike, same_ps, same_k, no_more, sizes, param_names, arr_names, in_params, in_arrs}
use Rattle.language.specs.Laws.{Each, NeverWrong, Further}
use Rattle.language.proofs.WellTyped.{Room, each_++, each_nth, each_replicate, Small, small, Cell, CellsOk, ValueSmall, AllSmall, both, opt_true, same_kind, kind_true, shape, Ctx, Good, Has, HasAll, Fitting, «local», some_is, absurd_some, some_then, or_assoc, inside, good-enter, good-back, good-set, good-words, good-put, pick1}
use Rattle.language.proofs.Tops.{TopOk, TopIs, resolve_ok, var_finds, arr_finds, first-cells, first-sizes}
use Rattle.language.proofs.WordResults.{binary-small, single-small, bit-small}
use Rattle.language.proofs.Growth.{never_further}

-- what a result may be: traps and spent runs always may, wrong ones never; whatever the result, the words of its state are small
pub record Post : Type 1 where
  pub v : Value → State → Type 0
  pub l : List Value → State → Type 0
  pub f : State → Type 0
  pub b : State → Type 0
  pub g : Value → State → Type 0

pub data Meets (q : Bool) (P : Post) : Result → Type 0 where
  m_val : {v : Value} {t : State} → P.v v t → Meets q P (val v t)
  m_vals : {vs : List Value} {t : State} → P.l vs t → Meets q P (vals vs t)
  m_fine : {t : State} → P.f t → Meets q P (fine t)
  m_broke : {t : State} → P.b t → Meets q P (broke t)
  m_next : {t : State} → P.b t → Meets q P (goes_on t)
  m_gives : {v : Value} {t : State} → P.g v t → Meets q P (gives v t)
  m_trap : {c : ℕ} {t : State} → AllSmall q t → Meets q P (trap c t)
  m_spent : {t : State} → AllSmall q t → Meets q P (spent t)

abbrev pub only_val : (Value → State → Type 0) → Post
only_val A = record { v = A; l = λ vs t. ⊥; f = λ t. ⊥; b = λ t. ⊥; g = λ v t. ⊥ }

abbrev pub only_list : (List Value → State → Type 0) → Post
only_list A = record { v = λ v t. ⊥; l = A; f = λ t. ⊥; b = λ t. ⊥; g = λ v t. ⊥ }

abbrev pub stm : (State → Type 0) → (State → Type 0) → (Value → State → Type 0) → Post
stm F B G = record { v = λ v t. ⊥; l = λ vs t. ⊥; f = F; b = B; g = G }

abbrev Meant : Result → Type 0
Meant (val v t) = Unit {0}
Meant (vals vs t) = Unit {0}
Meant (fine t) = Unit {0}
Meant (broke t) = Unit {0}
Meant (goes_on t) = Unit {0}
Meant (gives v t) = Unit {0}
Meant (trap c t) = Unit {0}
Meant (spent t) = Unit {0}
Meant wrong = ⊥

meant : {q : Bool} {P : Post} {r : Result} → Meets q P r → Meant r
meant (m_val x) = tt
meant (m_vals x) = tt
meant (m_fine x) = tt
meant (m_broke x) = tt
meant (m_next x) = tt
meant (m_gives x) = tt
meant (m_trap x) = tt
meant (m_spent x) = tt

pub not_wrong : {q : Bool} {P : Post} {r : Result} → Meets q P r → r ≡ wrong → ⊥
not_wrong m e = subst Meant e (meant m)

-- read back
pub the_val : {q : Bool} {P : Post} {v : Value} {t : State} → Meets q P (val v t) → P.v v t
the_val (m_val x) = x

-- the combinators
pub nw_val :
    {q : Bool} {A : Value → State → Type 0} {Q : Post} {f : Value → State → Result} {r : Result} → Meets q (only_val A) r →
    ((v : Value) (t : State) → A v t → Meets q Q (f v t)) → Meets q Q (on_val r f)
nw_val (m_val {v = v} {t = t} x) k = k v t x
nw_val (m_vals x) k = absurd x
nw_val (m_fine x) k = absurd x
nw_val (m_broke x) k = absurd x
nw_val (m_next x) k = absurd x
nw_val (m_gives x) k = absurd x
nw_val (m_trap x) k = m_trap x
nw_val (m_spent x) k = m_spent x

pub nw_vals :
    {q : Bool} {A : List Value → State → Type 0} {Q : Post} {f : List Value → State → Result} {r : Result} → Meets q (only_list A) r →
    ((vs : List Value) (t : State) → A vs t → Meets q Q (f vs t)) → Meets q Q (on_vals r f)
nw_vals (m_val x) k = absurd x
nw_vals (m_vals {vs = vs} {t = t} x) k = k vs t x
nw_vals (m_fine x) k = absurd x
nw_vals (m_broke x) k = absurd x
nw_vals (m_next x) k = absurd x
nw_vals (m_gives x) k = absurd x
nw_vals (m_trap x) k = m_trap x
nw_vals (m_spent x) k = m_spent x

module _ {q : Bool} {F B : State → Type 0} {G : Value → State → Type 0} where
  pub nw_fine :
      {f : State → Result} {r : Result} → Meets q (stm F B G) r → ((t : State) → F t → Meets q (stm F B G) (f t)) → Meets q (stm F B G) (on_fine r f)
  nw_fine (m_val x) k = absurd x
  nw_fine (m_vals x) k = absurd x
  nw_fine (m_fine {t = t} x) k = k t x
  nw_fine (m_broke x) k = m_broke x
  nw_fine (m_next x) k = m_next x
  nw_fine (m_gives x) k = m_gives x
  nw_fine (m_trap x) k = m_trap x
  nw_fine (m_spent x) k = m_spent x

  pub nw_round :
      {B' : State → Type 0} {f : State → Result} {r : Result} → Meets q (stm F B' G) r → ((t : State) → B' t → F t) →
      ((t : State) → F t → Meets q (stm F B G) (f t)) → Meets q (stm F B G) (on_round r f)
  nw_round (m_val x) j k = absurd x
  nw_round (m_vals x) j k = absurd x
  nw_round (m_fine {t = t} x) j k = k t x
  nw_round (m_broke {t = t} x) j k = m_fine (j t x)
  nw_round (m_next {t = t} x) j k = k t (j t x)
  nw_round (m_gives x) j k = m_gives x
  nw_round (m_trap x) j k = m_trap x
  nw_round (m_spent x) j k = m_spent x

pub nw_end :
    {q : Bool} {F B : State → Type 0} {G A : Value → State → Type 0} {r : Result} (s : State) → Meets q (stm F B G) r → ((t : State) → B t → ⊥) →
    ((t : State) → F t → A (word 0) (back s t)) → ((v : Value) (t : State) → G v t → A v (back s t)) → Meets q (only_val A) (on_end s r)
nw_end s (m_val x) i j k = absurd x
nw_end s (m_vals x) i j k = absurd x
nw_end s (m_fine {t = t} x) i j k = m_val (j t x)
nw_end s (m_broke {t = t} x) i j k = absurd (i t x)
nw_end s (m_next {t = t} x) i j k = absurd (i t x)
nw_end s (m_gives {v = v} {t = t} x) i j k = m_val (k v t x)
nw_end s (m_trap x) i j k = m_trap x
nw_end s (m_spent x) i j k = m_spent x

pub nw_found :
    {q : Bool} {A : Type 0} {Q : Post} {o : Option A} {x : A} (d : Result) (f : A → Result) → o ≡ some x → Meets q Q (f x) → Meets q Q (opt o d f)
nw_found {q = q} {Q = Q} d f e m = subst (λ o. Meets q Q (opt o d f)) (sym e) m

pub nw_opt :
    {q : Bool} {A : Type 0} {Q : Post} {d : Result} {f : A → Result} (o : Option A) → Meets q Q d → ((x : A) → o ≡ some x → Meets q Q (f x)) →
    Meets q Q (opt o d f)
nw_opt none m k = m
nw_opt (some x) m k = k x refl

pub nw_either : {q : Bool} {Q : Post} (b : Bool) (f g : State → Result) (s : State) → Meets q Q (f s) → Meets q Q (g s) → Meets q Q (either b f g s)
nw_either true f g s m n = m
nw_either false f g s m n = n

pub word_case : (sh : Room) (P : Value → Type 0) (v : Value) → Has sh v k_word → ((n : ℕ) → Small sh.strict n → P (word n)) → P v
word_case sh P (word n) h k = k n h
word_case sh P (array a) h k = absurd h

pub has_snoc :
    (sh : Room) (vs : List Value) (qs : List Param) (v : Value) (q : Param) → HasAll sh vs qs → Has sh v q.kind →
    HasAll sh (vs ++ (v ∷ [])) (qs ++ (q ∷ []))
has_snoc sh [] [] v q h g = (g, tt)
has_snoc sh [] (r ∷ qs) v q h g = absurd h
has_snoc sh (w ∷ vs) [] v q h g = absurd h
has_snoc sh (w ∷ vs) (r ∷ qs) v q h g = (h.0, has_snoc sh vs qs v q h.1 g)

pub has_same : (sh : Room) (vs : List Value) (qs rs : List Param) → T (same_ps qs rs) → HasAll sh vs qs → HasAll sh vs rs
has_same sh [] [] [] e h = tt
has_same sh (v ∷ vs) [] [] e h = absurd h
has_same sh vs [] (r ∷ rs) e h = absurd e
has_same sh vs (q ∷ qs) [] e h = absurd e
has_same sh [] (q ∷ qs) (r ∷ rs) e h = absurd h
has_same sh (v ∷ vs) (q ∷ qs) (r ∷ rs) e h =
    let d = both (same_k q.kind r.kind) (same_ps qs rs) e in
    (subst (Has sh v) (same_kind q.kind r.kind d.0) h.0, has_same sh vs qs rs d.1 h.1)

or_first : {A : Type 0} {a : Option A} {x : A} (b : Option A) → a ≡ some x → or_else a b ≡ some x
or_first b e = ap (λ o. or_else o b) e

arr-word : (w : Bool) → k_arr w ≡ k_word → ⊥
arr-word w e = let z : ◌≡◌ {A = ℕ} 0 1 = cc in omega lin

and_last : (z a b c d e : Bool) → T (a && (b && (c && (d && (e && z))))) → T d × T z
and_last z a b c d e t =
    let y = both d (e && z) (both c (d && (e && z)) (both b (c && (d && (e && z))) (both a (b && (c && (d && (e && z)))) t).1).1).1 in
    (y.0, (both e z y.1).1)

cell-small : (q w : Bool) (n : ℕ) → Cell q w n → Small q n
cell-small q true n h = h
cell-small q false n h = small q n (omega lin)

-- over the program alone, so that statements which name these carry no proof
module _ (p : Prog) where
  abbrev pub kind_post : Ctx → Kind → Post
  kind_post c k = only_val (λ v t. Has c.sh v k × Good p c t)

  abbrev pub list_post : Ctx → List Param → Post
  list_post c qs = only_list (λ vs t. HasAll c.sh vs qs × Good p c t)

  abbrev pub stm_post : Ctx → Bool → Post
  stm_post c l = stm (Good p c) (λ t. T l × Good p c t) (λ v t. Has c.sh v k_word × Good p c t)

  pub record Safe (go : Go) : Type 0 where
    pub on_e :
        (c : Ctx) (k : Kind) (e : Expr) (s : State) → T (fits_arg p c.file c.fn e (ok_e p c.file c.fn e) (some k)) → Good p c s →
        Meets c.sh.strict (kind_post c k) (go c.file (t_e e) s)
    pub on_es :
        (c : Ctx) (qs : List Param) (es : Exprs) (ds : List Param) (vs : List Value) (s : State) → T (ok_es p c.file c.fn qs es) →
        HasAll c.sh vs ds → Good p c s → Meets c.sh.strict (list_post c (ds ++ qs)) (go c.file (t_es es vs) s)
    pub on_s :
        (c : Ctx) (l : Bool) (a : Stmt) (s : State) → T (ok_s p c.file c.fn l a) → Good p c s →
        Meets c.sh.strict (stm_post c l) (go c.file (t_s a) s)
    pub on_b :
        (c : Ctx) (l : Bool) (b : Block) (s : State) → T (ok_b p c.file c.fn l b) → Good p c s →
        Meets c.sh.strict (stm_post c l) (go c.file (t_b b) s)
    pub on_call :
        (c : Ctx) (f : Name) (g : Fn) (vs : List Value) (s : State) → T (ok_fn p f g) → HasAll c.sh vs g.params → Good p c s →
        Meets c.sh.strict (kind_post c k_word) (go f (t_call g vs) s)

  pub nw_word :
      {c : Ctx} {Q : Post} {r : Result} (f : Value → State → Result) → Meets c.sh.strict (kind_post c k_word) r →
      ((n : ℕ) → Small c.sh.strict n → (t : State) → Good p c t → Meets c.sh.strict Q (f (word n) t)) → Meets c.sh.strict Q (on_val r f)
  nw_word {c} {Q} f m k = nw_val m (λ v t x. word_case c.sh (λ u. Meets c.sh.strict Q (f u t)) v x.0 (λ n w. k n w t x.1))

module _ (p : Prog) (okp : T (ok_fs p p)) where
  good_same :
      {c : Ctx} {s t : State} → t.words ≡ s.words → t.arrays ≡ s.arrays → t.vars ≡ s.vars → Each (Small c.sh.strict) t.ins →
      Each (Small c.sh.strict) t.outs → Good p c s → Good p c t
  good_same {c} {s} {t} a b d i o h = record {
    words_are = ap length a ∙ h.words_are;
    arrays_are = ap shape b ∙ h.arrays_are;
    vars_are = λ x. subst (λ vs. Fitting c.sh (get_b vs x) («local» c.fn x)) (sym d) (h.vars_are x);
    base = h.base;
    sizes_are = h.sizes_are;
    smalls = record {
      words = subst (Each (Small c.sh.strict)) (sym a) h.smalls.words;
      cells = subst (Each (CellsOk c.sh.strict)) (sym b) h.smalls.cells;
      vars = subst (Each (λ b. ValueSmall c.sh.strict b.val)) (sym d) h.smalls.vars;
      ins = i;
      outs = o;
    };
  }

  arith_safe :
      (c : Ctx) (o x y : ℕ) (s : State) → Small c.sh.strict x → Small c.sh.strict y → Good p c s →
      Meets c.sh.strict (kind_post p c k_word) (arith o x y s)
  arith_safe c o x y s u v h = pick1 (Meets c.sh.strict (kind_post p c k_word)) (div0 o y) (m_trap h.smalls) (m_val (binary-small c.sh.strict o x y u v, h))

  reads_safe : (c : Ctx) (s : State) → Good p c s → Meets c.sh.strict (kind_post p c k_word) (reads s)
  reads_safe c s h = go s.ins h.smalls.ins
    where
      go : (l : List ℕ) → Each (Small c.sh.strict) l → Meets c.sh.strict (kind_post p c k_word) (reads_from l s)
      go [] i = m_trap h.smalls
      go (n ∷ ns) i = m_val (i.0, good_same refl refl refl i.1 h.smalls.outs h)

  -- a function that a name stands for
  fn_is : (f x : Name) (i : Is) (g : Fn) → TopIs p f i → as_fn (record { file = f; name = x; is = i }) ≡ some g → T (ok_fn p f g)
  fn_is f x (is_word i) g h e = absurd_some e
  fn_is f x (is_arr a w) g h e = absurd_some e
  fn_is f x (is_table fs) g h e = absurd_some e
  fn_is f x (is_fn k) g h e = subst (λ z. T (ok_fn p f z)) (some_is e) h

  table_is :
      (f x : Name) (i : Is) (fs : List Name) → TopIs p f i → as_table (record { file = f; name = x; is = i }) ≡ some fs →
      T (opt (head_fn p f fs) false (λ qs. alike p f qs fs))
  table_is f x (is_word i) g h e = absurd_some e
  table_is f x (is_arr a w) g h e = absurd_some e
  table_is f x (is_table fs) g h e = subst (λ z. T (opt (head_fn p f z) false (λ qs. alike p f qs z))) (some_is e) h
  table_is f x (is_fn k) g h e = absurd_some e

  not_local : {A : Type 0} {x : A} (b : Bool) (o : Option A) → pick b none o ≡ some x → o ≡ some x
  not_local true o e = absurd_some e
  not_local false o e = e

  alike_nth :
      (f : Name) (qs : List Param) (fs : List Name) (i : ℕ) (x : Name) → T (alike p f qs fs) → nth fs i ≡ some x →
      (h : Fn) × (fn_named p f x ≡ some h) × T (same_ps qs h.params)
  alike_nth f qs [] i x t e = absurd_some e
  alike_nth f qs (y ∷ fs) zero x t e = subst (λ z. (h : Fn) × (fn_named p f z ≡ some h) × T (same_ps qs h.params)) (some_is e) (opt_true (fn_named p f y) (λ h. same_ps qs h.params) (both (opt (fn_named p f y) false (λ h. same_ps qs h.params)) (alike p f qs fs) t).0)
  alike_nth f qs (y ∷ fs) (suc i) x t e = alike_nth f qs fs i x (both (opt (fn_named p f y) false (λ h. same_ps qs h.params)) (alike p f qs fs) t).1 e

  module _ {go : Go} (h : Safe p go) (c : Ctx) where
    named_safe :
        (f x : Name) (g : Fn) (vs : List Value) (s : State) → fn_named p f x ≡ some g → HasAll c.sh vs g.params → Good p c s →
        Meets c.sh.strict (kind_post p c k_word) (calls go p f x vs s)
    named_safe f x g vs s e a k =
        let y = some_then (resolve p f x) as_fn e in
        nw_found _ _ y.1 (nw_found _ _ y.2 (h.on_call c y.0.file g vs s (fn_is y.0.file y.0.name y.0.is g (resolve_ok p okp f x y.0 y.1) y.2) a k))

    calls_safe :
        (x : Name) (qs : List Param) (vs : List Value) (s : State) → params_of p c.file c.fn x ≡ some qs → HasAll c.sh vs qs → Good p c s →
        Meets c.sh.strict (kind_post p c k_word) (calls go p c.file x vs s)
    calls_safe x qs vs s e a k =
        let y = some_then (fn_named p c.file x) (λ h. some h.params) (not_local (is_local c.fn x) _ e) in
        named_safe c.file x y.0 vs s y.1 (subst (HasAll c.sh vs) (sym (some_is y.2)) a) k

    row_safe :
        (x : Name) (i : ℕ) (qs : List Param) (vs : List Value) (s : State) (t : Top) (fs : List Name) → TopOk p t → resolve p c.file x ≡ some t →
        as_table t ≡ some fs → head_fn p t.file fs ≡ some qs → HasAll c.sh vs qs → Good p c s →
        Meets c.sh.strict (kind_post p c k_word) (opt (resolve p c.file x) wrong (λ t. opt (as_table t) wrong (λ fs. opt (nth fs i) (trap 1 s) (λ g. calls go p t.file g vs s))))
    row_safe x i qs vs s t fs o e₁ e₂ e₃ a g =
        let k = opt_true (head_fn p t.file fs) (λ qs. alike p t.file qs fs) (table_is t.file t.name t.is fs o e₂) in
        nw_found _ _ e₁ (nw_found _ _ e₂ (nw_opt (nth fs i) (m_trap g.smalls) (λ z e. let b = alike_nth t.file k.0 fs i z k.2 e in named_safe t.file z b.0 vs s b.1 (has_same c.sh vs k.0 b.0.params b.2 (subst (HasAll c.sh vs) (some_is (sym e₃ ∙ k.1)) a)) g)))

    table_safe :
        (x : Name) (i : ℕ) (qs : List Param) (vs : List Value) (s : State) → params_of_table p c.file c.fn x ≡ some qs → HasAll c.sh vs qs →
        Good p c s →
        Meets c.sh.strict (kind_post p c k_word) (opt (resolve p c.file x) wrong (λ t. opt (as_table t) wrong (λ fs. opt (nth fs i) (trap 1 s) (λ g. calls go p t.file g vs s))))
    table_safe x i qs vs s e a g =
        let r = some_then (resolve p c.file x) (λ t. on_some (as_table t) (λ fs. head_fn p t.file fs)) (not_local (is_local c.fn x) _ e) in
        let q = some_then (as_table r.0) (λ fs. head_fn p r.0.file fs) r.2 in
        row_safe x i qs vs s r.0 q.0 (resolve_ok p okp c.file x r.0 r.1) r.1 q.1 q.2 a g

    w_safe :
        (e : Expr) (s : State) → T (ok_e p c.file c.fn e) → Good p c s → Meets c.sh.strict (kind_post p c k_word) (evals go p c.file e s)
    w_safe (num n) s t g = m_val (small c.sh.strict n (ltb→lt n 4294967296 t), g)
    w_safe (var x) s t g = let y = var_finds p c s g okp x k_word (kind_true _ k_word t) in nw_found _ _ y.1 (m_val (y.2, g))
    w_safe (bin o a b) s t g =
        let d = both (ok_e p c.file c.fn a) (ok_e p c.file c.fn b) t in
        nw_word p _ (h.on_e c k_word a s d.0 g) (λ x wx s1 g1. nw_word p _ (h.on_e c k_word b s1 d.1 g1) (λ y wy s2 g2. arith_safe c o x y s2 wx wy g2))
    w_safe (un o a) s t g = nw_word p _ (h.on_e c k_word a s t g) (λ x wx s1 g1. m_val (single-small c.sh.strict o x wx, g1))
    w_safe (and1 a b) s t g =
        let d = both (ok_e p c.file c.fn a) (ok_e p c.file c.fn b) t in
        nw_word p _ (h.on_e c k_word a s d.0 g) (λ x wx s1 g1. nw_either (eqb x 0) _ _ s1 (m_val (bit-small c.sh.strict false, g1)) (nw_word p _ (h.on_e c k_word b s1 d.1 g1) (λ y wy s2 g2. m_val (bit-small c.sh.strict (not (eqb y 0)), g2))))
    w_safe (or1 a b) s t g =
        let d = both (ok_e p c.file c.fn a) (ok_e p c.file c.fn b) t in
        nw_word p _ (h.on_e c k_word a s d.0 g) (λ x wx s1 g1. nw_either (eqb x 0) _ _ s1 (nw_word p _ (h.on_e c k_word b s1 d.1 g1) (λ y wy s2 g2. m_val (bit-small c.sh.strict (not (eqb y 0)), g2))) (m_val (bit-small c.sh.strict true, g1)))
    w_safe (idx x e) s t g =
        let d = both (any_arr (kind_of p c.file c.fn x)) (ok_e p c.file c.fn e) t in
        nw_word p _ (h.on_e c k_word e s d.1 g) (λ i wi s1 g1. let y = arr_finds p c s1 g1 okp x d.0 in nw_found _ _ y.2 (nw_found _ _ y.3 (nw_opt (nth y.1.cells i) (m_trap g1.smalls) (λ n q. m_val (cell-small c.sh.strict y.1.wide n (each_nth (Cell c.sh.strict y.1.wide) y.1.cells i n (each_nth (CellsOk c.sh.strict) s1.arrays y.0 y.1 g1.smalls.cells y.3) q), g1)))))
    w_safe (len x) s t g = let y = arr_finds p c s g okp x t in nw_found _ _ y.2 (nw_found _ _ y.3 (m_val (small c.sh.strict _ y.4, g)))
    w_safe (call x es) s t g =
        let y = opt_true (params_of p c.file c.fn x) (λ qs. ok_es p c.file c.fn qs es) t in
        nw_vals (h.on_es c y.0 es [] [] s y.2 tt g) (λ vs s1 a. calls_safe x y.0 vs s1 y.1 a.0 a.1)
    w_safe (by_table x e es) s t g =
        let d = both (ok_e p c.file c.fn e) (opt (params_of_table p c.file c.fn x) false (λ qs. ok_es p c.file c.fn qs es)) t in
        let y = opt_true (params_of_table p c.file c.fn x) (λ qs. ok_es p c.file c.fn qs es) d.1 in
        nw_word p _ (h.on_e c k_word e s d.0 g) (λ i wi s1 g1. nw_vals (h.on_es c y.0 es [] [] s1 y.2 tt g1) (λ vs s2 a. table_safe x i y.0 vs s2 y.1 a.0 a.1))
    w_safe input s t g = reads_safe c s g

    a_safe :
        (w : Bool) (e : Expr) (s : State) → T (names_arr p c.file c.fn w e) → Good p c s →
        Meets c.sh.strict (kind_post p c (k_arr w)) (evals go p c.file e s)
    a_safe w (num n) s t g = absurd t
    a_safe w (var x) s t g = let y = var_finds p c s g okp x (k_arr w) (kind_true _ (k_arr w) t) in nw_found _ _ y.1 (m_val (y.2, g))
    a_safe w (bin o a b) s t g = absurd t
    a_safe w (un o a) s t g = absurd t
    a_safe w (and1 a b) s t g = absurd t
    a_safe w (or1 a b) s t g = absurd t
    a_safe w (idx x e) s t g = absurd t
    a_safe w (len x) s t g = absurd t
    a_safe w (call x es) s t g = absurd t
    a_safe w (by_table x e es) s t g = absurd t
    a_safe w input s t g = absurd t

    e_safe :
        (k : Kind) (e : Expr) (s : State) → T (fits_arg p c.file c.fn e (ok_e p c.file c.fn e) (some k)) → Good p c s →
        Meets c.sh.strict (kind_post p c k) (evals go p c.file e s)
    e_safe k_word e s t g = w_safe e s t g
    e_safe (k_arr w) e s t g = a_safe w e s t g

    es_safe :
        (qs : List Param) (es : Exprs) (ds : List Param) (vs : List Value) (s : State) → T (ok_es p c.file c.fn qs es) → HasAll c.sh vs ds →
        Good p c s → Meets c.sh.strict (list_post p c (ds ++ qs)) (lists go c.file es vs s)
    es_safe [] no ds vs s t a g = m_vals (subst (HasAll c.sh vs) (sym (append-nil ds)) a, g)
    es_safe (q ∷ qs) no ds vs s t a g = absurd t
    es_safe [] (and_then e es) ds vs s t a g = absurd t
    es_safe (q ∷ qs) (and_then e es) ds vs s t a g =
        let d = both (fits_arg p c.file c.fn e (ok_e p c.file c.fn e) (some q.kind)) (ok_es p c.file c.fn qs es) t in
        nw_val (h.on_e c q.kind e s d.0 g) (λ v s1 x. subst (λ z. Meets c.sh.strict (list_post p c z) (go c.file (t_es es (vs ++ (v ∷ []))) s1)) (append_assoc ds (q ∷ []) qs) (h.on_es c qs es (ds ++ (q ∷ [])) (vs ++ (v ∷ [])) s1 d.1 (has_snoc c.sh vs ds v q a x.0) x.1))

    -- a name is set: its own, or a word at the top
    word_top : (f x : Name) (i : Is) → kind_is i ≡ some k_word → (n : ℕ) × (as_word (record { file = f; name = x; is = i }) ≡ some n)
    word_top f x (is_word n) e = (n, refl)
    word_top f x (is_arr a w) e = absurd (arr-word w (some_is e))
    word_top f x (is_table fs) e = absurd_some e
    word_top f x (is_fn g) e = absurd_some e

    set_safe :
        (l : Bool) (x : Name) (n : ℕ) (w : Small c.sh.strict n) (s : State) (o : Option Value) (j : Option Kind) → «local» c.fn x ≡ j →
        Fitting c.sh o j → or_else j (on_some (resolve p c.file x) (λ t. kind_is t.is)) ≡ some k_word → Good p c s →
        Meets c.sh.strict (stm_post p c l) (opt o (opt (on_some (resolve p c.file x) as_word) wrong (λ i. fine (with_words s (put s.words i n)))) (λ old. fine (with_vars s (set_b s.vars x (word n)))))
    set_safe l x n w s none none d f e g =
        let y = some_then (resolve p c.file x) (λ t. kind_is t.is) e in
        let z = word_top y.0.file y.0.name y.0.is y.2 in
        nw_found _ _ (ap (λ o. on_some o as_word) y.1 ∙ z.1) (m_fine (good-words p c s z.0 n g w))
    set_safe l x n w s none (some j) d f e g = absurd f
    set_safe l x n w s (some v) none d f e g = absurd f
    set_safe l x n w s (some v) (some j) d f e g = m_fine (good-set p c s x n g w (d ∙ e))

    assign_safe :
        (l : Bool) (x : Name) (n : ℕ) (w : Small c.sh.strict n) (s : State) → T (is_kind (kind_of p c.file c.fn x) k_word) → Good p c s →
        Meets c.sh.strict (stm_post p c l) (assigns p c.file x (word n) s)
    assign_safe l x n w s t g = set_safe l x n w s (get_b s.vars x) («local» c.fn x) refl (g.vars_are x) (sym (or_assoc (in_params c.fn.params x) (pick (listed x c.fn.vars) (some k_word) none) (in_arrs c.fn.arrs x) _) ∙ kind_true _ k_word t) g

    s_safe :
        (l : Bool) (a : Stmt) (s : State) → T (ok_s p c.file c.fn l a) → Good p c s →
        Meets c.sh.strict (stm_post p c l) (does go p c.file a s)
    s_safe l (set1 x e) s t g =
        let d = both (is_kind (kind_of p c.file c.fn x) k_word) (ok_e p c.file c.fn e) t in
        nw_word p _ (h.on_e c k_word e s d.1 g) (λ n wn s1 g1. assign_safe l x n wn s1 d.0 g1)
    s_safe l (store1 x i e) s t g =
        let d = both (any_arr (kind_of p c.file c.fn x)) (ok_e p c.file c.fn i && ok_e p c.file c.fn e) t in
        let b = both (ok_e p c.file c.fn i) (ok_e p c.file c.fn e) d.1 in
        nw_word p _ (h.on_e c k_word i s b.0 g) (λ j wj s1 g1. nw_word p _ (h.on_e c k_word e s1 b.1 g1) (λ n wn s2 g2. let y = arr_finds p c s2 g2 okp x d.0 in nw_found _ _ y.2 (nw_found _ _ y.3 (nw_opt (nth y.1.cells j) (m_trap g2.smalls) (λ old q. m_fine (good-put p c s2 y.0 j n y.1 y.3 wn g2))))))
    s_safe l (ex1 e) s t g = nw_word p _ (h.on_e c k_word e s t g) (λ n wn s1 g1. m_fine g1)
    s_safe l (out1 e) s t g = nw_word p _ (h.on_e c k_word e s t g) (λ n wn s1 g1. m_fine (good_same refl refl refl g1.smalls.ins (each_++ (Small c.sh.strict) s1.outs (n ∷ []) g1.smalls.outs (wn, tt)) g1))
    s_safe l (if1 e b b') s t g =
        let d = both (ok_e p c.file c.fn e) (ok_b p c.file c.fn l b && ok_b p c.file c.fn l b') t in
        let k = both (ok_b p c.file c.fn l b) (ok_b p c.file c.fn l b') d.1 in
        nw_word p _ (h.on_e c k_word e s d.0 g) (λ n wn s1 g1. nw_either (eqb n 0) _ _ s1 (h.on_b c l b' s1 k.1 g1) (h.on_b c l b s1 k.0 g1))
    s_safe l (while1 e b) s t g =
        let d = both (ok_e p c.file c.fn e) (ok_b p c.file c.fn true b) t in
        nw_word p _ (h.on_e c k_word e s d.0 g) (λ n wn s1 g1. nw_either (eqb n 0) _ _ s1 (m_fine g1) (nw_round (h.on_b c true b s1 d.1 g1) (λ u x. x.1) (λ u g2. h.on_s c l (while1 e b) u t g2)))
    s_safe l (ret1 e) s t g = nw_word p _ (h.on_e c k_word e s t g) (λ n wn s1 g1. m_gives (wn, g1))
    s_safe l break1 s t g = m_broke (t, g)
    s_safe l next1 s t g = m_next (t, g)

    b_safe :
        (l : Bool) (b : Block) (s : State) → T (ok_b p c.file c.fn l b) → Good p c s →
        Meets c.sh.strict (stm_post p c l) (runs go c.file b s)
    b_safe l end s t g = m_fine g
    b_safe l (seq1 a b) s t g =
        let d = both (ok_s p c.file c.fn l a) (ok_b p c.file c.fn l b) t in
        nw_fine (h.on_s c l a s d.0 g) (λ s1 g1. h.on_b c l b s1 d.1 g1)

    body_ok : (f : Name) (g : Fn) → T (ok_fn p f g) → T (sizes 4096 g.arrs) × T (ok_b p f g false g.body)
    body_ok f g t = and_last (ok_b p f g false g.body) (leb (length g.params) 8) (leb (length g.vars) 64) (leb (length g.arrs) 16) (sizes 4096 g.arrs) (once (param_names g.params ++ (g.vars ++ arr_names g.arrs))) t

    call_safe :
        (f : Name) (g : Fn) (vs : List Value) (s : State) → T (ok_fn p f g) → HasAll c.sh vs g.params → Good p c s →
        Meets c.sh.strict (kind_post p c k_word) (on_end s (go f (t_b g.body) (enter g vs s)))
    call_safe f g vs s t a k = nw_end s (h.on_b (inside f g c) false g.body (enter g vs s) (body_ok f g t).1 (good-enter p c f g vs s (body_ok f g t).0 k a)) (λ u x. x.0) (λ u x. (bit-small c.sh.strict false, good-back p c f g s u k x)) (λ v u x. (word_case (inside f g c).sh (λ w. Has c.sh w k_word) v x.0 (λ n w. w), good-back p c f g s u k x.1))

  pub safe : (n : ℕ) → Safe p (run p n)
  safe zero = record {
    on_e = λ c k e s t g. m_spent g.smalls;
    on_es = λ c qs es ds vs s t a g. m_spent g.smalls;
    on_s = λ c l a s t g. m_spent g.smalls;
    on_b = λ c l b s t g. m_spent g.smalls;
    on_call = λ c f g vs s t a k. m_spent k.smalls;
  }
  safe (suc n) = record {
    on_e = e_safe (safe n);
    on_es = es_safe (safe n);
    on_s = s_safe (safe n);
    on_b = b_safe (safe n);
    on_call = call_safe (safe n);
  }

-- before any call
abbrev pub nobody : Fn
nobody = record { name = []; params = []; vars = []; arrs = []; body = end }

abbrev pub outside : Prog → Bool → Ctx
outside p q = record { file = first_file p; fn = nobody; sh = record { strict = q; shapes = shape (all_arrays p) } }

good-begin : (p : Prog) (q : Bool) (ins : List ℕ) → T (leb (totals p) 262144) → T (ok_fs p p) → Each (Small q) ins → Good p (outside p q) (begin p ins)
good-begin p q ins l t i =
    let m = leb→le (totals p) 262144 l in
    record { words_are = length-replicate (all_words p) 0; arrays_are = refl; vars_are = λ x. tt; base = λ a w e. e; sizes_are = first-sizes p (omega lin); smalls = record { words = each_replicate (Small q) (all_words p) 0 (small q 0 (lit< tt)); cells = first-cells q p p t; vars = tt; ins = i; outs = tt } }

main-ok : (p : Prog) (q : Bool) → T (has_main p) → T (ok_e p (outside p q).file (outside p q).fn (call w_main no))
main-ok p q t =
    let y = opt_true (on_some (top_of (all_tops p 0 0) (first_file p) w_main) as_fn) (λ g. no_more g.params) t in
    let z = some_then (top_of (all_tops p 0 0) (first_file p) w_main) as_fn y.1 in
    let r : resolve p (first_file p) w_main ≡ some z.0 = or_first _ z.1 in
    subst (λ o. T (opt (on_some o (λ h. some h.params)) false (λ qs. ok_es p (first_file p) nobody qs no))) (sym (ap (λ o. on_some o as_fn) r ∙ z.2)) y.2

pub ok_parts : (p : Prog) → T (ok p) → T (has_main p) × T (leb (totals p) 262144) × T (ok_fs p p)
ok_parts p t =
    let b = both (has_main p) (leb (totals p) 262144 && ok_fs p p) (both (once (file_names p)) (has_main p && (leb (totals p) 262144 && ok_fs p p)) t).1 in
    let d = both (leb (totals p) 262144) (ok_fs p p) b.1 in
    (b.0, d.0, d.1)

-- whatever is read it's meant; and where what is read are words, all are words
pub meant_means :
    (p : Prog) (q : Bool) (ins : List ℕ) (n : ℕ) (t : T (ok p)) → Each (Small q) ins → Meets q (kind_post p (outside p q) k_word) (means p ins n)
meant_means p q ins n t i = (safe p (ok_parts p t).2 n).on_e (outside p q) k_word (call w_main no) (begin p ins) (main-ok p q (ok_parts p t).0) (good-begin p q ins (ok_parts p t).1 (ok_parts p t).2 i)

any-each : (l : List ℕ) → Each (Small false) l
any-each [] = tt
any-each (n ∷ l) = (tt, any-each l)

pub never-wrong : NeverWrong
never-wrong p ins n r = not_wrong (meant_means p false ins n r (any-each ins))

pub further : Further
further = never_further never-wrong
