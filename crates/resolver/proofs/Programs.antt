-- The resolved program is made of the items of each sort, file by file.
use Rattle.std.proofs.Common.{◌≡◌, ℕ, ◌+◌, ◌<◌, min, true, List, [], ◌∷◌, ◌++◌, length, sym, refl, ap, ◌∙◌, ap₂, arith, length-append}
use mathlib.Core.Bool.{false≢true}
use mathlib.Core.Option.{Option, some, none}
use Rattle.language.specs.Syntax.{opt, Name, Item, i_word, i_arr, i_data, i_table, i_fn, i_use, Fn, Prog}
use Rattle.language.specs.Meaning.{on_some, Top, tops, all_tops, words_in, arrays_in, all_words, top_of, used_in, items_of, as_fn, as_table, first_file, w_main}
use Rattle.language.specs.Checks.{once, file_names, has_main, no_more}
use Rattle.rows.specs.declared.row.Row.{Row}
use Rattle.rows.specs.Row.{Pushed}
use Rattle.rows.specs.Has.{Has, named}
use Rattle.rows.specs.Trees.{list_row}
use Rattle.rows.proofs.Writing.{pushed_more}
use Rattle.steps.specs.Generate.{sorted, pos, number, fn_no, fn_nos}
use Rattle.steps.proofs.Checked.{and-true, opt_true, some_then}
use Rattle.steps.proofs.Variables.{none-some}
use Rattle.generator.specs.ResolvedRows.{Routine, routine_words, table_words, resolved_words, resolve_fn, resolve_prog}
use Rattle.limits.proofs.Places.{list_row-append}
use Rattle.names.proofs.Referring.{no_files, first-file-at}
use Rattle.resolver.specs.Sound.{Sound}
use Rattle.resolver.specs.Items.{item_words, file_words, sum_of, is_sort, sort_in}
use Rattle.resolver.proofs.Bounds.{number_fits}
use Rattle.resolver.proofs.ItemLoops.{sorts_fit}
use Rattle.resolver.proofs.Walking.{pushed_as}

sorted_append : {A C : Type 0} (is : Top → Option A) (f : Top → A → C) (ts us : List Top) → sorted is f (ts ++ us) ≡ sorted is f ts ++ sorted is f us
sorted_append is f [] us = refl
sorted_append {A} {C} is f (t ∷ ts) us = go (is t) (sorted_append is f ts us)
  where
    go : (o : Option A) → sorted is f (ts ++ us) ≡ sorted is f ts ++ sorted is f us → opt o (sorted is f (ts ++ us)) (λ a. f t a ∷ sorted is f (ts ++ us)) ≡ opt o (sorted is f ts) (λ a. f t a ∷ sorted is f ts) ++ sorted is f us
    go none e = e
    go (some a) e = ap {B = List C} (λ l. f t a ∷ l) e

module _ (p : Prog) where
  abbrev fn_made : Top → Fn → Routine
  fn_made t g = resolve_fn p t.file g

  abbrev table_made : Top → List Name → List ℕ
  table_made t fs = fn_nos p t.file fs

  fns_of : (f : Name) (is : List Item) (w a : ℕ) → list_row routine_words (sorted as_fn fn_made (tops f is w a)) ≡ list_row (item_words p f 4) is
  fns_of f [] w a = refl
  fns_of f (i_word x ∷ is) w a = fns_of f is (w + 1) a
  fns_of f (i_arr r ∷ is) w a = fns_of f is w (a + 1)
  fns_of f (i_data d x ns ∷ is) w a = fns_of f is w (a + 1)
  fns_of f (i_table x fs ∷ is) w a = fns_of f is w a
  fns_of f (i_fn g ∷ is) w a = ap (λ (l : List ℕ). routine_words (resolve_fn p f g) ++ l) (fns_of f is w a)
  fns_of f (i_use x ys ∷ is) w a = fns_of f is w a

  tables_of : (f : Name) (is : List Item) (w a : ℕ) → list_row table_words (sorted as_table table_made (tops f is w a)) ≡ list_row (item_words p f 3) is
  tables_of f [] w a = refl
  tables_of f (i_word x ∷ is) w a = tables_of f is (w + 1) a
  tables_of f (i_arr r ∷ is) w a = tables_of f is w (a + 1)
  tables_of f (i_data d x ns ∷ is) w a = tables_of f is w (a + 1)
  tables_of f (i_table x fs ∷ is) w a = ap (λ (l : List ℕ). table_words (fn_nos p f fs) ++ l) (tables_of f is w a)
  tables_of f (i_fn g ∷ is) w a = tables_of f is w a
  tables_of f (i_use x ys ∷ is) w a = tables_of f is w a

  fns_rows : (q : Prog) (w a : ℕ) → list_row routine_words (sorted as_fn fn_made (all_tops q w a)) ≡ list_row (file_words p 4) q
  fns_rows [] w a = refl
  fns_rows (f ∷ fs) w a =
      let ts = tops f.name f.items w a in
      let us = all_tops fs (w + words_in f.items) (a + length (arrays_in f.items)) in
      ap (list_row routine_words) (sorted_append as_fn fn_made ts us) ∙ list_row-append routine_words (sorted as_fn fn_made ts) (sorted as_fn fn_made us) ∙ ap₂ (λ (l m : List ℕ). l ++ m) (fns_of f.name f.items w a) (fns_rows fs (w + words_in f.items) (a + length (arrays_in f.items)))

  tables_rows : (q : Prog) (w a : ℕ) → list_row table_words (sorted as_table table_made (all_tops q w a)) ≡ list_row (file_words p 3) q
  tables_rows [] w a = refl
  tables_rows (f ∷ fs) w a =
      let ts = tops f.name f.items w a in
      let us = all_tops fs (w + words_in f.items) (a + length (arrays_in f.items)) in
      ap (list_row table_words) (sorted_append as_table table_made ts us) ∙ list_row-append table_words (sorted as_table table_made ts) (sorted as_table table_made us) ∙ ap₂ (λ (l m : List ℕ). l ++ m) (tables_of f.name f.items w a) (tables_rows fs (w + words_in f.items) (a + length (arrays_in f.items)))

-- how many there are
module _ {C : Type 0} where
  fns_in : (m : Top → Fn → C) (f : Name) (is : List Item) (w a : ℕ) → length (sorted as_fn m (tops f is w a)) ≡ sum_of (is_sort 4) is
  fns_in m f [] w a = refl
  fns_in m f (i_word x ∷ is) w a = omega (arith, fns_in m f is (w + 1) a)
  fns_in m f (i_arr r ∷ is) w a = omega (arith, fns_in m f is w (a + 1))
  fns_in m f (i_data d x ns ∷ is) w a = omega (arith, fns_in m f is w (a + 1))
  fns_in m f (i_table x fs ∷ is) w a = omega (arith, fns_in m f is w a)
  fns_in m f (i_fn g ∷ is) w a = omega (arith, fns_in m f is w a)
  fns_in m f (i_use x ys ∷ is) w a = omega (arith, fns_in m f is w a)

  tables_in : (m : Top → List Name → C) (f : Name) (is : List Item) (w a : ℕ) → length (sorted as_table m (tops f is w a)) ≡ sum_of (is_sort 3) is
  tables_in m f [] w a = refl
  tables_in m f (i_word x ∷ is) w a = omega (arith, tables_in m f is (w + 1) a)
  tables_in m f (i_arr r ∷ is) w a = omega (arith, tables_in m f is w (a + 1))
  tables_in m f (i_data d x ns ∷ is) w a = omega (arith, tables_in m f is w (a + 1))
  tables_in m f (i_table x fs ∷ is) w a = omega (arith, tables_in m f is w a)
  tables_in m f (i_fn g ∷ is) w a = omega (arith, tables_in m f is w a)
  tables_in m f (i_use x ys ∷ is) w a = omega (arith, tables_in m f is w a)

  fns_count : (m : Top → Fn → C) (q : Prog) (w a : ℕ) → length (sorted as_fn m (all_tops q w a)) ≡ sum_of (sort_in 4) q
  fns_count m [] w a = refl
  fns_count m (f ∷ fs) w a =
      let ts = tops f.name f.items w a in
      let us = all_tops fs (w + words_in f.items) (a + length (arrays_in f.items)) in
      ap length (sorted_append as_fn m ts us) ∙ length-append (sorted as_fn m ts) (sorted as_fn m us) ∙ ap₂ (λ (l k : ℕ). l + k) (fns_in m f.name f.items w a) (fns_count m fs (w + words_in f.items) (a + length (arrays_in f.items)))

  tables_count : (m : Top → List Name → C) (q : Prog) (w a : ℕ) → length (sorted as_table m (all_tops q w a)) ≡ sum_of (sort_in 3) q
  tables_count m [] w a = refl
  tables_count m (f ∷ fs) w a =
      let ts = tops f.name f.items w a in
      let us = all_tops fs (w + words_in f.items) (a + length (arrays_in f.items)) in
      ap length (sorted_append as_table m ts us) ∙ length-append (sorted as_table m ts) (sorted as_table m us) ∙ ap₂ (λ (l k : ℕ). l + k) (tables_in m f.name f.items w a) (tables_count m fs (w + words_in f.items) (a + length (arrays_in f.items)))

words-sum : (is : List Item) → words_in is ≡ sum_of (is_sort 0) is
words-sum [] = refl
words-sum (i_word x ∷ is) = omega (arith, words-sum is)
words-sum (i_arr r ∷ is) = omega (arith, words-sum is)
words-sum (i_data d x ns ∷ is) = omega (arith, words-sum is)
words-sum (i_table x fs ∷ is) = omega (arith, words-sum is)
words-sum (i_fn g ∷ is) = omega (arith, words-sum is)
words-sum (i_use x ys ∷ is) = omega (arith, words-sum is)

words_count : (q : Prog) → all_words q ≡ sum_of (sort_in 0) q
words_count [] = refl
words_count (f ∷ fs) = ap₂ (λ (l k : ℕ). l + k) (words-sum f.items) (words_count fs)

-- main
pub main_there : {w : List ℕ} {p : Prog} → Sound w p → Has w 1 (named (first_file p))
main_there {w} {p} s =
    first-file-at p s.is refl (λ e. false≢true (no_files p s.is refl e ∙ main_right s))
  where
    main_right : Sound w p → has_main p ≡ true
    main_right s = (and-true (has_main p) _ (and-true (once (file_names p)) _ s.right).1).0

module _ {w : List ℕ} {p : Prog} (s : Sound w p) where
  main_found : (t : Top) × (top_of (all_tops p 0 0) (first_file p) w_main ≡ some t)
  main_found =
      let h = (and-true (has_main p) _ (and-true (once (file_names p)) _ s.right).1).0 in
      let a = opt_true (on_some (top_of (all_tops p 0 0) (first_file p) w_main) as_fn) (λ g. no_more g.params) h in
      let b = some_then (top_of (all_tops p 0 0) (first_file p) w_main) as_fn a.1 in
      (b.0, b.1)

  number_main : number as_fn p (first_file p) w_main ≡ pos as_fn (all_tops p 0 0) (first_file p) w_main
  number_main = ap (λ (o : Option Top). opt o (opt (used_in (items_of p (first_file p)) w_main) 0 (λ g. pos as_fn (all_tops p 0 0) g w_main)) (λ t. pos as_fn (all_tops p 0 0) (first_file p) w_main)) main_found.1

  pub main_number_is : {k r : ℕ} → pos as_fn (all_tops p 0 0) (first_file p) w_main ≡ k → r ≡ min (k + 1) 18446744073709551615 → r ≡ fn_no p (first_file p) w_main
  main_number_is e q = omega (arith, e, q, number_main, number_fits as_fn (first_file p) w_main s)

  pub main_not_none : top_of (all_tops p 0 0) (first_file p) w_main ≡ none → ⊥
  main_not_none e = none-some (sym e ∙ main_found.1)

  -- the whole
  pub program_pushed : {o q r t u : Row} {a b c d i j k l : ℕ} → i ≡ sum_of (sort_in 0) p → j ≡ fn_no p (first_file p) w_main → k ≡ sum_of (sort_in 4) p → l ≡ sum_of (sort_in 3) p → (i < 4294967296 → a ≡ i) → (j < 4294967296 → b ≡ j) → (k < 4294967296 → c ≡ k) → (l < 4294967296 → d ≡ l) → Pushed o q (a ∷ b ∷ c ∷ []) → Pushed q r (list_row (file_words p 4) p) → Pushed r t (d ∷ []) → Pushed t u (list_row (file_words p 3) p) → Pushed o u (resolved_words (resolve_prog p))
  program_pushed {o} {q} {r} {t} {u} {a} {b} {c} {d} {i} {j} {k} {l} ei ej ek el wa wb wc wd first fns count tables =
      let x = sorts_fit 0 s in
      let y = sorts_fit 4 s in
      let z = sorts_fit 3 s in
      let v = number_fits as_fn (first_file p) w_main s in
      let za : a ≡ all_words p = wa (omega arith) ∙ (ei ∙ sym (words_count p)) in
      let zb : b ≡ fn_no p (first_file p) w_main = wb (omega arith) ∙ ej in
      let zc : c ≡ length (sorted as_fn (fn_made p) (all_tops p 0 0)) = wc (omega arith) ∙ (ek ∙ sym (fns_count (fn_made p) p 0 0)) in
      let zd : d ≡ length (sorted as_table (table_made p) (all_tops p 0 0)) = wd (omega arith) ∙ (el ∙ sym (tables_count (table_made p) p 0 0)) in
      let zf : list_row (file_words p 4) p ≡ list_row routine_words (sorted as_fn (fn_made p) (all_tops p 0 0)) = sym (fns_rows p p 0 0) in
      let zt : list_row (file_words p 3) p ≡ list_row table_words (sorted as_table (table_made p) (all_tops p 0 0)) = sym (tables_rows p p 0 0) in
      pushed_more (pushed_as (three za zb zc) first) (pushed_more (pushed_as zf fns) (pushed_more (pushed_as (ap (λ (n : ℕ). n ∷ []) zd) count) (pushed_as zt tables)))
    where
      three : {e f g h m n : ℕ} → e ≡ h → f ≡ m → g ≡ n → (e ∷ f ∷ g ∷ []) ≡ (h ∷ m ∷ n ∷ [])
      three ea eb ec = rw (ea, eb, ec) refl
