-- What the checks say of all that stands at the top of the files: a name that is found there has a value of its kind. For Safe.
use mathlib.Core.Path.{◌≡◌, refl, sym, ◌∙◌, ap, ap₂, subst}
use mathlib.Core.Bool.{Bool, true, false, ◌&&◌}
use mathlib.Core.List.{List, [], ◌∷◌, ◌++◌, append_assoc}
use mathlib.Core.Logic.{⊎_elim}
use mathlib.Core.Option.{Option, some, none}
use Prim.Native.Nat.{ℕ, ◌+◌, ◌≤◌, ◌<◌}
use native.Mathlib.Omega.{arith}
use lib.ListN.{length, length-append, length-replicate, replicate}
use lib.Dec.{T, ltb→lt, ltb, leb}
use Rattle.language.specs.Syntax.{pick, opt, nth, Name, same, listed, Kind, k_word, k_arr, Item, i_word, i_arr, i_data, i_table, i_fn, i_use, Prog}
use Rattle.language.specs.Meaning.{Is, is_word, is_arr, is_table, is_fn, Top, tops, words_in, arrays_in, all_tops, top_of, used_in, items_of, on_some, or_else, resolve, Cells, all_words, all_arrays, as_word, as_arr, State, Value, word, array, get_b, get_var, get_arr, arr_of}
use Rattle.language.specs.Checks.{once, total, totals, words_ok, names_in, ok_fs, ok_is, ok_item, ok_fn, head_fn, alike, kind_is, kind_of, in_params, in_arrs, any_arr}
use Rattle.language.specs.Words.{all}
use Rattle.language.specs.Laws.{Each}
use Rattle.language.proofs.WellTyped.{Shape, each_++, each_nth, each_replicate, Small, small, Cell, CellsOk, zero-cell, both, shape, shape_++, shape-length, nth_at, nth_lt, shape-nth, snoc_length, Ctx, Good, Has, «local», Finds, finds_or, or_assoc, or_cases, some_then, pick1, some_is, absurd_some}

abbrev pub TopIs : Prog → Name → Is → Type 0
TopIs p f (is_word i) = i < all_words p
TopIs p f (is_arr a w) = (m : ℕ) × (nth (shape (all_arrays p)) a ≡ some (record { wide = w; size = m }))
TopIs p f (is_table fs) = T (opt (head_fn p f fs) false (λ qs. alike p f qs fs))
TopIs p f (is_fn g) = T (ok_fn p f g)

abbrev pub TopOk : Prog → Top → Type 0
TopOk p t = TopIs p t.file t.is

-- these stand behind w words and the arrays pre
module _ (p : Prog) where
  pub tops_ok :
      (f : Name) (is : List Item) (w a : ℕ) (pre post : List Shape) → T (ok_is p f is) → w + words_in is ≤ all_words p →
      shape (all_arrays p) ≡ pre ++ (shape (arrays_in is) ++ post) → length pre ≡ a → Each (TopOk p) (tops f is w a)
  unfolding shape
  tops_ok f [] w a pre post h l e n = tt
  tops_ok f (i_word x ∷ is) w a pre post h l e n = (omega arith, tops_ok f is (w + 1) a pre post h (omega arith) e n)
  tops_ok f (i_arr r ∷ is) w a pre post h l e n =
      let z : Shape = record { wide = r.wide; size = length (replicate r.size 0) } in
      ((length (replicate r.size 0), ap₂ nth e (sym n) ∙ nth_at pre (shape (arrays_in is) ++ post) z), tops_ok f is w (a + 1) (pre ++ (z ∷ [])) post (both (ok_item p f (i_arr r)) (ok_is p f is) h).1 l (e ∙ sym (append_assoc pre (z ∷ []) (shape (arrays_in is) ++ post))) (snoc_length pre z a n))
  tops_ok f (i_data d x ns ∷ is) w a pre post h l e n =
      let z : Shape = record { wide = d; size = length ns } in
      ((length ns, ap₂ nth e (sym n) ∙ nth_at pre (shape (arrays_in is) ++ post) z), tops_ok f is w (a + 1) (pre ++ (z ∷ [])) post (both (ok_item p f (i_data d x ns)) (ok_is p f is) h).1 l (e ∙ sym (append_assoc pre (z ∷ []) (shape (arrays_in is) ++ post))) (snoc_length pre z a n))
  tops_ok f (i_table x fs ∷ is) w a pre post h l e n = ((both (ok_item p f (i_table x fs)) (ok_is p f is) h).0, tops_ok f is w a pre post (both (ok_item p f (i_table x fs)) (ok_is p f is) h).1 l e n)
  tops_ok f (i_fn g ∷ is) w a pre post h l e n = ((both (ok_fn p f g) (ok_is p f is) h).0, tops_ok f is w a pre post (both (ok_fn p f g) (ok_is p f is) h).1 l e n)
  tops_ok f (i_use x ys ∷ is) w a pre post h l e n = tops_ok f is w a pre post (both (ok_item p f (i_use x ys)) (ok_is p f is) h).1 l e n

  pub all_tops_ok :
      (q : Prog) (w a : ℕ) (pre : List Shape) → T (ok_fs p q) → w + all_words q ≤ all_words p → shape (all_arrays p) ≡ pre ++ shape (all_arrays q) →
      length pre ≡ a → Each (TopOk p) (all_tops q w a)
  all_tops_ok [] w a pre h l e n = tt
  all_tops_ok (f ∷ q) w a pre h l e n = each_++ (TopOk p) (tops f.name f.items w a) (all_tops q (w + words_in f.items) (a + length (arrays_in f.items)))
      (tops_ok f.name f.items w a pre (shape (all_arrays q)) k.0 (omega arith) e' n)
      (all_tops_ok q (w + words_in f.items) (a + length (arrays_in f.items)) (pre ++ shape (arrays_in f.items)) k.1 (omega arith) (e' ∙ sym (append_assoc pre (shape (arrays_in f.items)) (shape (all_arrays q)))) (length-append pre (shape (arrays_in f.items)) ∙ ap₂ (λ x y. x + y) n (shape-length (arrays_in f.items))))
    where
      k : T (ok_is p f.name f.items) × T (ok_fs p q)
      k = both (ok_is p f.name f.items) (ok_fs p q) (both (once (names_in f.items)) (ok_is p f.name f.items && ok_fs p q) h).1

      e' : shape (all_arrays p) ≡ pre ++ (shape (arrays_in f.items) ++ shape (all_arrays q))
      e' = e ∙ ap (λ z. pre ++ z) (shape_++ (arrays_in f.items) (all_arrays q))

  pub top_of_ok : (ts : List Top) (f x : Name) (t : Top) → Each (TopOk p) ts → top_of ts f x ≡ some t → TopOk p t
  top_of_ok [] f x t h e = absurd_some e
  top_of_ok (u ∷ ts) f x t h e = pick1 (λ o. o ≡ some t → TopOk p t) (same u.file f && same u.name x) (λ d. subst (TopOk p) (some_is d) h.0) (λ d. top_of_ok ts f x t h.1 d) e

  pub each_top : T (ok_fs p p) → Each (TopOk p) (all_tops p 0 0)
  each_top h = all_tops_ok p 0 0 [] h (omega arith) refl refl

  pub resolve_ok : T (ok_fs p p) → (f x : Name) (t : Top) → resolve p f x ≡ some t → TopOk p t
  resolve_ok h f x t e = ⊎_elim (λ d. top_of_ok (all_tops p 0 0) f x t (each_top h) d) (λ d. let y = some_then (used_in (items_of p f) x) (λ g. top_of (all_tops p 0 0) g x) d in top_of_ok (all_tops p 0 0) y.0 x t (each_top h) y.2) (or_cases (top_of (all_tops p 0 0) f x) (on_some (used_in (items_of p f) x) (λ g. top_of (all_tops p 0 0) g x)) e)

  -- a name at the top has a value of its kind
  module _ (c : Ctx) (s : State) (h : Good p c s) where
    abbrev top_val : Top → Option Value
    top_val t = or_else (on_some (as_word t) (λ i. on_some (nth s.words i) (λ n. some (word n)))) (on_some (as_arr t) (λ a. some (array a)))

    top_finds :
        (f x : Name) (i : Is) (k : Kind) → TopIs p f i → kind_is i ≡ some k → Finds c.sh (top_val (record { file = f; name = x; is = i })) k
    top_finds f x (is_word i) k o e =
        let y = nth_lt s.words i (omega (arith, h.words_are)) in
        (word y.0, ap (λ z. or_else (on_some z (λ n. some (word n))) none) y.1, subst (Has c.sh (word y.0)) (some_is e) (each_nth (Small c.sh.strict) s.words i y.0 h.smalls.words y.1))
    top_finds f x (is_arr a w) k o e = (array a, refl, subst (Has c.sh (array a)) (some_is e) (o.0, h.base a _ o.1))
    top_finds f x (is_table fs) k o e = absurd_some e
    top_finds f x (is_fn g) k o e = absurd_some e

    pub var_finds : T (ok_fs p p) → (x : Name) (k : Kind) → kind_of p c.file c.fn x ≡ some k → Finds c.sh (get_var p c.file x s) k
    var_finds g x k e = finds_or c.sh (get_b s.vars x) («local» c.fn x) (on_some (resolve p c.file x) top_val) (on_some (resolve p c.file x) (λ t. kind_is t.is)) k (h.vars_are x)
        (λ d. let y = some_then (resolve p c.file x) (λ t. kind_is t.is) d in subst (λ o. Finds c.sh (on_some o top_val) k) (sym y.1) (top_finds y.0.file y.0.name y.0.is k (resolve_ok g c.file x y.0 y.1) y.2))
        (sym (or_assoc (in_params c.fn.params x) (pick (listed x c.fn.vars) (some k_word) none) (in_arrs c.fn.arrs x) _) ∙ e)

    arr_found :
        (v : Value) (w : Bool) → Has c.sh v (k_arr w) →
        (a : ℕ) × (v ≡ array a) × ((m : ℕ) × (nth c.sh.shapes a ≡ some (record { wide = w; size = m })))
    arr_found (word n) w d = absurd d
    arr_found (array a) w d = (a, refl, d)

    pub arr_finds :
        T (ok_fs p p) → (x : Name) → T (any_arr (kind_of p c.file c.fn x)) →
        (a : ℕ) × (k : Cells) × (get_arr p c.file x s ≡ some a) × (nth s.arrays a ≡ some k) × (length k.cells < all)
    arr_finds g x t = by (kind_of p c.file c.fn x) t (var_finds g x)
      where
        by :
            (o : Option Kind) → T (any_arr o) → ((k : Kind) → o ≡ some k → Finds c.sh (get_var p c.file x s) k) →
            (a : ℕ) × (k : Cells) × (get_arr p c.file x s ≡ some a) × (nth s.arrays a ≡ some k) × (length k.cells < all)
        by none d f = absurd d
        by (some k_word) d f = absurd d
        by (some (k_arr w)) d f =
            let y = f (k_arr w) refl in
            let z = arr_found y.0 w y.2 in
            let u = shape-nth s.arrays z.0 _ (ap (λ l. nth l z.0) h.arrays_are ∙ z.2.1) in
            (z.0, u.0, ap (λ o. on_some o arr_of) (y.1 ∙ ap some z.1), u.1, subst (λ r. r.size < all) u.2 (each_nth (λ r. r.size < all) c.sh.shapes z.0 _ h.sizes_are z.2.1))

-- the arrays at first
words-each : (q w : Bool) (ns : List ℕ) → T (words_ok w ns) → Each (Cell q w) ns
words-each q w [] t = tt
words-each q true (n ∷ ns) t =
    let d = both (ltb n 4294967296) (words_ok true ns) t in
    (small q n (ltb→lt n 4294967296 d.0), words-each q true ns d.1)
words-each q false (n ∷ ns) t = let d = both (ltb n 256) (words_ok false ns) t in (ltb→lt n 256 d.0, words-each q false ns d.1)

items-cells : (q : Bool) (p : Prog) (f : Name) (is : List Item) → T (ok_is p f is) → Each (CellsOk q) (arrays_in is)
items-cells q p f [] t = tt
items-cells q p f (i_word x ∷ is) t = items-cells q p f is t
items-cells q p f (i_arr r ∷ is) t = (each_replicate (Cell q r.wide) r.size 0 (zero-cell q r.wide), items-cells q p f is (both (ok_item p f (i_arr r)) (ok_is p f is) t).1)
items-cells q p f (i_data d x ns ∷ is) t =
    let b = both (ok_item p f (i_data d x ns)) (ok_is p f is) t in
    (words-each q d ns (both (leb 1 (length ns)) (words_ok d ns) b.0).1, items-cells q p f is b.1)
items-cells q p f (i_table x fs ∷ is) t = items-cells q p f is (both (ok_item p f (i_table x fs)) (ok_is p f is) t).1
items-cells q p f (i_fn g ∷ is) t = items-cells q p f is (both (ok_fn p f g) (ok_is p f is) t).1
items-cells q p f (i_use x ys ∷ is) t = items-cells q p f is (both (ok_item p f (i_use x ys)) (ok_is p f is) t).1

pub first-cells : (q : Bool) (p fs : Prog) → T (ok_fs p fs) → Each (CellsOk q) (all_arrays fs)
first-cells q p [] t = tt
first-cells q p (f ∷ fs) t =
    let k = both (ok_is p f.name f.items) (ok_fs p fs) (both (once (names_in f.items)) (ok_is p f.name f.items && ok_fs p fs) t).1 in
    each_++ (CellsOk q) (arrays_in f.items) (all_arrays fs) (items-cells q p f.name f.items k.0) (first-cells q p fs k.1)

items-sizes : (is : List Item) → total is < all → Each (λ z. z.size < all) (shape (arrays_in is))
unfolding shape
items-sizes [] l = tt
items-sizes (i_word x ∷ is) l = items-sizes is l
items-sizes (i_arr r ∷ is) l = (omega (arith, length-replicate {A = ℕ} r.size 0), items-sizes is (omega arith))
items-sizes (i_data d x ns ∷ is) l = (omega arith, items-sizes is (omega arith))
items-sizes (i_table x fs ∷ is) l = items-sizes is l
items-sizes (i_fn g ∷ is) l = items-sizes is l
items-sizes (i_use x ys ∷ is) l = items-sizes is l

pub first-sizes : (fs : Prog) → totals fs < all → Each (λ z. z.size < all) (shape (all_arrays fs))
unfolding shape
first-sizes [] l = tt
first-sizes (f ∷ fs) l = subst (Each (λ z. z.size < all)) (sym (shape_++ (arrays_in f.items) (all_arrays fs))) (each_++ (λ z. z.size < all) (shape (arrays_in f.items)) (shape (all_arrays fs)) (items-sizes f.items (omega arith)) (first-sizes fs (omega arith)))
