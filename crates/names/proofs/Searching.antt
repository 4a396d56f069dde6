-- The tops of a program passed one by one: the two loops that look a name up at the top of a file.
use Rattle.std.proofs.Common.{◌≡◌, ℕ, suc, ◌+◌, ◌<◌, ◌≤◌, Bool, true, false, not, ◌&&◌, eqb, List, [], ◌∷◌, ◌++◌, length, sym, refl, ap, ◌∙◌, ap₂, arith, length-append}
use mathlib.Core.Option.{Option, some, none}
use Rattle.language.specs.Syntax.{pick, opt, Name, same, Item, i_word, i_arr, i_data, i_table, i_fn, i_use, File, Prog}
use Rattle.language.specs.Meaning.{on_some, Top, tops, all_tops, top_of, as_fn, as_table, words_in, arrays_in, is_word, is_arr, is_table, is_fn}
use Rattle.steps.specs.Generate.{pos}
use Rattle.rows.specs.declared.kind.ItemKind.{ItemKind}
use Rattle.rows.specs.declared.kind.ItemKind.TheVariants.{Word, Array, Data, Table, Function, Use}
use Rattle.rows.specs.Kinds.{kind_of_item}
use Rattle.rows.specs.Has.{Has, named}
use Rattle.rows.specs.Trees.{list_row, item_no, name_of, item_row, file_row, prog_row}
use Rattle.names.specs.declared.found.Spot.{Spot}
use Rattle.names.specs.Finds.{top_in, fns_in, tables_in, TopAt, Passes}

-- a top more, if it is one
abbrev pub and_top : Option Top → List Top → List Top
and_top none ts = ts
and_top (some t) ts = t ∷ ts

abbrev pub words1 : Item → ℕ
words1 i = words_in (i ∷ [])

abbrev pub arrays1 : Item → ℕ
arrays1 i = length (arrays_in (i ∷ []))

tops_step : (f : Name) (i : Item) (is : List Item) (w a : ℕ) → tops f (i ∷ is) w a ≡ and_top (top_in f i w a) (tops f is (w + words1 i) (a + arrays1 i))
tops_step f (i_word x) is w a = ap₂ (λ (v b : ℕ). record { file = f; name = x; is = is_word w } ∷ tops f is v b) (omega arith) (omega arith)
tops_step f (i_arr r) is w a = ap₂ (λ (v b : ℕ). record { file = f; name = r.name; is = is_arr a r.wide } ∷ tops f is v b) (omega arith) (omega arith)
tops_step f (i_data d x ns) is w a = ap₂ (λ (v b : ℕ). record { file = f; name = x; is = is_arr a d } ∷ tops f is v b) (omega arith) (omega arith)
tops_step f (i_table x fs) is w a = ap₂ (λ (v b : ℕ). record { file = f; name = x; is = is_table fs } ∷ tops f is v b) (omega arith) (omega arith)
tops_step f (i_fn g) is w a = ap₂ (λ (v b : ℕ). record { file = f; name = g.name; is = is_fn g } ∷ tops f is v b) (omega arith) (omega arith)
tops_step f (i_use x ys) is w a = ap₂ (λ (v b : ℕ). tops f is v b) (omega arith) (omega arith)

words_step : (i : Item) (is : List Item) → words_in (i ∷ is) ≡ words1 i + words_in is
words_step (i_word x) is = omega arith
words_step (i_arr r) is = omega arith
words_step (i_data d x ns) is = omega arith
words_step (i_table x fs) is = omega arith
words_step (i_fn g) is = omega arith
words_step (i_use x ys) is = omega arith

arrays-step : (i : Item) (is : List Item) → length (arrays_in (i ∷ is)) ≡ arrays1 i + length (arrays_in is)
arrays-step (i_word x) is = omega arith
arrays-step (i_arr r) is = omega arith
arrays-step (i_data d x ns) is = omega arith
arrays-step (i_table x fs) is = omega arith
arrays-step (i_fn g) is = omega arith
arrays-step (i_use x ys) is = omega arith

-- an item that is no use
pub no_use : (i : Item) → (kind_of_item i ≡ Use → ⊥) → false ≡ eqb (item_no i) 5
no_use (i_word x) n = refl
no_use (i_arr r) n = refl
no_use (i_data d x ns) n = refl
no_use (i_table x fs) n = refl
no_use (i_fn g) n = refl
no_use (i_use x ys) n = absurd (n refl)

-- a kind that is a use, and an item of it
abbrev is_use : ItemKind → Bool
is_use Word = false
is_use Array = false
is_use Data = false
is_use Table = false
is_use Function = false
is_use Use = true

is_use_no : (i : Item) → is_use (kind_of_item i) ≡ eqb (item_no i) 5
is_use_no (i_word x) = refl
is_use_no (i_arr r) = refl
is_use_no (i_data d x ns) = refl
is_use_no (i_table x fs) = refl
is_use_no (i_fn g) = refl
is_use_no (i_use x ys) = refl

pub a_use : (i : Item) → Use ≡ kind_of_item i → true ≡ eqb (item_no i) 5
a_use i e = ap is_use e ∙ is_use_no i

-- an item is one word, array, function or table at most
words_le : (i : Item) → words1 i ≤ 1
words_le (i_word x) = omega arith
words_le (i_arr r) = omega arith
words_le (i_data d x ns) = omega arith
words_le (i_table x fs) = omega arith
words_le (i_fn g) = omega arith
words_le (i_use x ys) = omega arith

arrays-le : (i : Item) → arrays1 i ≤ 1
arrays-le (i_word x) = omega arith
arrays-le (i_arr r) = omega arith
arrays-le (i_data d x ns) = omega arith
arrays-le (i_table x fs) = omega arith
arrays-le (i_fn g) = omega arith
arrays-le (i_use x ys) = omega arith

fns-le : (i : Item) → fns_in i ≤ 1
fns-le (i_word x) = omega arith
fns-le (i_arr r) = omega arith
fns-le (i_data d x ns) = omega arith
fns-le (i_table x fs) = omega arith
fns-le (i_fn g) = omega arith
fns-le (i_use x ys) = omega arith

tables_le : (i : Item) → tables_in i ≤ 1
tables_le (i_word x) = omega arith
tables_le (i_arr r) = omega arith
tables_le (i_data d x ns) = omega arith
tables_le (i_table x fs) = omega arith
tables_le (i_fn g) = omega arith
tables_le (i_use x ys) = omega arith

-- whether a top is x of the file f, and one of a sort
hits : Option Top → Name → Name → Bool
hits o f x = opt o false (λ t. same t.file f && same t.name x)

one_if : {A : Type 0} → (Top → Option A) → Option Top → ℕ
one_if is o = opt (on_some o is) 0 (λ a. 1)

top_skip : (o : Option Top) (F X : Name) (ts : List Top) → hits o F X ≡ false → top_of (and_top o ts) F X ≡ top_of ts F X
unfolding hits
top_skip none F X ts e = refl
top_skip (some t) F X ts e = ap (λ (b : Bool). pick b (some t) (top_of ts F X)) e

top-here : (o : Option Top) (F X : Name) (ts : List Top) → hits o F X ≡ true → top_of (and_top o ts) F X ≡ o
unfolding hits
top-here none F X ts e = let y : ◌≡◌ {A = ℕ} 0 1 = cc in absurd (omega arith)
top-here (some t) F X ts e = ap (λ (b : Bool). pick b (some t) (top_of ts F X)) e

pos_skip : {A : Type 0} (is : Top → Option A) (o : Option Top) (F X : Name) (ts : List Top) → hits o F X ≡ false → pos is (and_top o ts) F X ≡ one_if is o + pos is ts F X
unfolding hits one_if
pos_skip is none F X ts e = omega arith
pos_skip {A} is (some t) F X ts e = ap (λ (b : Bool). pick b 0 (opt (is t) (pos is ts F X) (λ a. suc (pos is ts F X)))) e ∙ go (is t)
  where
    go : (q : Option A) → opt q (pos is ts F X) (λ a. suc (pos is ts F X)) ≡ opt q 0 (λ a. 1) + pos is ts F X
    go none = omega arith
    go (some a) = omega arith

pos-here : {A : Type 0} (is : Top → Option A) (o : Option Top) (F X : Name) (ts : List Top) → hits o F X ≡ true → pos is (and_top o ts) F X ≡ 0
unfolding hits
pos-here is none F X ts e = let y : ◌≡◌ {A = ℕ} 0 1 = cc in absurd (omega arith)
pos-here is (some t) F X ts e = ap (λ (b : Bool). pick b 0 (opt (is t) (pos is ts F X) (λ a. suc (pos is ts F X)))) e

-- the same of items
hit : (f : Name) (i : Item) (w a : ℕ) (F X : Name) → hits (top_in f i w a) F X ≡ (not (eqb (item_no i) 5) && (same f F && same (name_of i) X))
unfolding hits
hit f (i_word x) w a F X = refl
hit f (i_arr r) w a F X = refl
hit f (i_data d x ns) w a F X = refl
hit f (i_table x fs) w a F X = refl
hit f (i_fn g) w a F X = refl
hit f (i_use x ys) w a F X = refl

one-fn : (f : Name) (i : Item) (w a : ℕ) → one_if as_fn (top_in f i w a) ≡ fns_in i
unfolding one_if
one-fn f (i_word x) w a = refl
one-fn f (i_arr r) w a = refl
one-fn f (i_data d x ns) w a = refl
one-fn f (i_table x fs) w a = refl
one-fn f (i_fn g) w a = refl
one-fn f (i_use x ys) w a = refl

one_table : (f : Name) (i : Item) (w a : ℕ) → one_if as_table (top_in f i w a) ≡ tables_in i
unfolding one_if
one_table f (i_word x) w a = refl
one_table f (i_arr r) w a = refl
one_table f (i_data d x ns) w a = refl
one_table f (i_table x fs) w a = refl
one_table f (i_fn g) w a = refl
one_table f (i_use x ys) w a = refl

-- of the tops of p only ts are left to look at, behind n functions and m tables
pub record Narrows (p : Prog) (F X : Name) (n m : ℕ) (ts : List Top) : Type 0 where
  pub top : top_of (all_tops p 0 0) F X ≡ top_of ts F X
  pub fns : pos as_fn (all_tops p 0 0) F X ≡ n + pos as_fn ts F X
  pub tables : pos as_table (all_tops p 0 0) F X ≡ m + pos as_table ts F X

-- what is left in a file, and behind it
abbrev pub rest_tops : Name → List Item → Prog → ℕ → ℕ → List Top
rest_tops f is fs w a = tops f is w a ++ all_tops fs (w + words_in is) (a + length (arrays_in is))

and_app : (o : Option Top) (ts rs : List Top) → and_top o ts ++ rs ≡ and_top o (ts ++ rs)
and_app none ts rs = refl
and_app (some t) ts rs = refl

rest-step : (f : Name) (i : Item) (is : List Item) (fs : Prog) (w a : ℕ) → rest_tops f (i ∷ is) fs w a ≡ and_top (top_in f i w a) (rest_tops f is fs (w + words1 i) (a + arrays1 i))
rest-step f i is fs w a =
    let e : w + words_in (i ∷ is) ≡ (w + words1 i) + words_in is = omega (arith, words_step i is) in
    let g : a + length (arrays_in (i ∷ is)) ≡ (a + arrays1 i) + length (arrays_in is) = omega (arith, arrays-step i is) in
    ap₂ (λ (ts rs : List Top). ts ++ rs) (tops_step f i is w a) (ap₂ (all_tops fs) e g) ∙ and_app (top_in f i w a) (tops f is (w + words1 i) (a + arrays1 i)) (all_tops fs ((w + words1 i) + words_in is) ((a + arrays1 i) + length (arrays_in is)))

-- what was counted, with the items that are left, is at most n
pub record Counted (s : Spot) (left n : ℕ) : Type 0 where
  pub words : s.words + left ≤ n
  pub arrays : s.arrays + left ≤ n
  pub fns : s.fns + left ≤ n
  pub tables : s.tables + left ≤ n

-- the items of files
pub items-in : Prog → ℕ
items-in [] = 0
items-in (f ∷ fs) = length f.items + items-in fs

long_items : (is : List Item) → length is ≤ length (list_row item_row is)
long_items [] = omega arith
long_items (i ∷ is) = omega (arith, long_items is, length-append (item_row i) (list_row item_row is))

long_files : (fs : Prog) → items-in fs ≤ length (list_row file_row fs)
unfolding items-in
long_files [] = omega arith
long_files (f ∷ fs) = omega (arith, long_files fs, long_items f.items, length-append (file_row f) (list_row file_row fs), length-append (named f.name) (length f.items ∷ list_row item_row f.items))

-- before a file: only the files fs are left to look at
pub record Files (w : List ℕ) (p : Prog) (F X : Name) (s : Spot) (fs : Prog) : Type 0 where
  pub narrow : Narrows p F X s.fns s.tables (all_tops fs s.words s.arrays)
  pub counted : Counted s (items-in fs) (length w)

-- before an item of the file f: only the items is, and the files fs behind it, are left
pub record Items (w : List ℕ) (p : Prog) (F X : Name) (s : Spot) (f : Name) (fs : Prog) (is : List Item) : Type 0 where
  pub narrow : Narrows p F X s.fns s.tables (rest_tops f is fs s.words s.arrays)
  pub counted : Counted s (length is + items-in fs) (length w)

pub files_first : {w : List ℕ} {p : Prog} {F X : Name} {m n : ℕ} → w ≡ prog_row p → Files w p F X (record { file = m; item = n; words = 0; arrays = 0; fns = 0; tables = 0 }) p
files_first {w} {p} e =
    let l = long_files p in
    let k = ap length e in
    record { narrow = record { top = refl; fns = omega arith; tables = omega arith }; counted = record { words = omega arith; arrays = omega arith; fns = omega arith; tables = omega arith } }

pub files_last : {w : List ℕ} {p : Prog} {F X : Name} {s : Spot} → Files w p F X s [] → top_of (all_tops p 0 0) F X ≡ none
files_last v = v.narrow.top

-- into a file, and behind it
pub into_file : {w : List ℕ} {p : Prog} {F X : Name} {s : Spot} (f : File) (fs : Prog) → Files w p F X s (f ∷ fs) → Items w p F X s f.name fs f.items
unfolding items-in
into_file f fs v = record { narrow = v.narrow; counted = v.counted }

pub behind_file : {w : List ℕ} {p : Prog} {F X f : Name} {s : Spot} {fs : Prog} → Items w p F X s f fs [] → Files w p F X s fs
behind_file {F = F} {X = X} {s = s} {fs = fs} v =
    let g : all_tops fs (s.words + 0) (s.arrays + 0) ≡ all_tops fs s.words s.arrays = ap₂ (all_tops fs) (omega arith) (omega arith) in
    let na = v.narrow in
    let k = v.counted in
    record {
      narrow = record { top = na.top ∙ ap (λ (ts : List Top). top_of ts F X) g; fns = na.fns ∙ ap (λ (ts : List Top). s.fns + pos as_fn ts F X) g; tables = na.tables ∙ ap (λ (ts : List Top). s.tables + pos as_table ts F X) g };
      counted = record { words = omega (arith, k.words); arrays = omega (arith, k.arrays); fns = omega (arith, k.fns); tables = omega (arith, k.tables) };
    }

module _ {w : List ℕ} {p : Prog} {F X f : Name} {s : Spot} (small : length w < 18446744073709551616) (i : Item) (is : List Item) (fs : Prog) (v : Items w p F X s f fs (i ∷ is)) where
  -- an item that is not the one sought
  pub past_item : {t : Spot} → Passes i s t → (not (eqb (item_no i) 5) && (same f F && same (name_of i) X)) ≡ false → Items w p F X t f fs is
  past_item {t} z o =
      let k = v.counted in
      let ew : t.words ≡ s.words + words1 i = omega (arith, z.words, k.words, words_le i) in
      let ea : t.arrays ≡ s.arrays + arrays1 i = omega (arith, z.arrays, k.arrays, arrays-le i) in
      let ef : t.fns ≡ s.fns + fns_in i = omega (arith, z.fns, k.fns, fns-le i) in
      let et : t.tables ≡ s.tables + tables_in i = omega (arith, z.tables, k.tables, tables_le i) in
      let na = v.narrow in
      let e = rest-step f i is fs s.words s.arrays in
      let r = rest_tops f is fs (s.words + words1 i) (s.arrays + arrays1 i) in
      let d : r ≡ rest_tops f is fs t.words t.arrays = ap₂ (rest_tops f is fs) (sym ew) (sym ea) in
      let u = top_in f i s.words s.arrays in
      let other : hits u F X ≡ false = hit f i s.words s.arrays F X ∙ o in
      let q = ap (λ (ts : List Top). pos as_fn ts F X) e ∙ pos_skip as_fn u F X r other in
      let q1 = one-fn f i s.words s.arrays in
      let q2 = ap (λ (ts : List Top). pos as_fn ts F X) d in
      let m = ap (λ (ts : List Top). pos as_table ts F X) e ∙ pos_skip as_table u F X r other in
      let m1 = one_table f i s.words s.arrays in
      let m2 = ap (λ (ts : List Top). pos as_table ts F X) d in
      record {
        narrow = record {
          top = na.top ∙ ap (λ (ts : List Top). top_of ts F X) e ∙ top_skip u F X r other ∙ ap (λ (ts : List Top). top_of ts F X) d;
          fns = omega (arith, na.fns, q, q1, q2, ef);
          tables = omega (arith, na.tables, m, m1, m2, et);
        };
        counted = record { words = omega (arith, ew, k.words, words_le i); arrays = omega (arith, ea, k.arrays, arrays-le i); fns = omega (arith, ef, k.fns, fns-le i); tables = omega (arith, et, k.tables, tables_le i) };
      }

  -- the item sought
  pub this_top : {a b : ℕ} → Has w a (named f) → Has w b (item_row i) → (not (eqb (item_no i) 5) && (same f F && same (name_of i) X)) ≡ true → TopAt w (all_tops p 0 0) F X (record { file = a; item = b; words = s.words; arrays = s.arrays; fns = s.fns; tables = s.tables })
  this_top hf hi o =
      let na = v.narrow in
      let u = top_in f i s.words s.arrays in
      let hit1 : hits u F X ≡ true = hit f i s.words s.arrays F X ∙ o in
      let g = rest-step f i is fs s.words s.arrays in
      let rs = rest_tops f is fs (s.words + words1 i) (s.arrays + arrays1 i) in
      let q = ap (λ (ts : List Top). pos as_fn ts F X) g ∙ pos-here as_fn u F X rs hit1 in
      let q1 = ap (λ (ts : List Top). pos as_table ts F X) g ∙ pos-here as_table u F X rs hit1 in
      record {
        top = record { file = f; item = i; at_file = hf; at_item = hi; is = na.top ∙ ap (λ (ts : List Top). top_of ts F X) g ∙ top-here u F X rs hit1; not_use = not_use (eqb (item_no i) 5) (same f F && same (name_of i) X) (sym o) };
        fns = omega (arith, na.fns, q);
        tables = omega (arith, na.tables, q1);
      }
    where
      not_use : (q c : Bool) → true ≡ (not q && c) → q ≡ false
      not_use true c e1 = e1
      not_use false c e1 = refl

-- two tests made apart
pub tested : (b c n : Bool) {r : Bool} → r ≡ (b && (not n && c)) → (not n && (b && c)) ≡ r
tested true c n e = sym e
tested false c true e = sym e
tested false c false e = sym e
