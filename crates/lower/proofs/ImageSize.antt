-- How long the image of a program is: its code, its tables and its values, by the tree and then by the text.
use mathlib.Core.Path.{◌≡◌, refl, ap, ◌∙◌}
use mathlib.Core.Bool.{Bool, true, false}
use mathlib.Core.List.{List, [], ◌∷◌, ◌++◌}
use mathlib.Core.Option.{Option, some, none}
use Prim.Native.Nat.{ℕ, zero, suc, ◌+◌, ◌≤◌}
use native.Mathlib.Omega.{arith}
use lib.ListN.{length, length-append, replicate}
use Rattle.language.specs.Syntax.{pick, opt, nth, Name, Kind, k_word, k_arr, Param, Fn, Item, i_word, i_arr, i_data, i_table, i_fn, i_use, Prog}
use Rattle.language.specs.Meaning.{Top, tops, all_tops, as_fn, as_table, Cells, words_in, arrays_in, all_arrays}
use Rattle.grammar.specs.Bounds.{each, w_fn, w_is, words}
use Rattle.image.specs.Image.{Image, row}
use Rattle.steps.specs.Steps.{MFn, MProg}
use Rattle.steps.specs.Generate.{slots_from, slots_of, words_of, scope, gen_body, gen_b, sorted, fn_nos, gen_fn, gen_prog}
use Rattle.lower.specs.Code.{LI, l_num}
use Rattle.lower.specs.Lower.{stores, prologue, at_of, code_of, pro_width, fun_row, fun_width, funs_row, entry_in, row_of, main_no, lens, area, live, live_of, kept, part, plens, flat, data_of, data_size, data_words, tlens, tab_row, tab_words, tab_size, code_words, words_of as words_from, compile as image}
use Rattle.lower.proofs.CodeSize.{costs, widths, code_long, widths_both, stores-long, w-b}

-- functions
word-params : (qs : List Param) → words_of (slots_from qs [] []) ≤ length qs
word-params [] = omega arith
word-params (q ∷ qs) = go q.kind (word-params qs)
  where
    go : (k : Kind) → words_of (slots_from qs [] []) ≤ length qs → words_of (Rattle.steps.specs.Generate.slot_of q.name k ∷ slots_from qs [] []) ≤ suc (length qs)
    go k_word h = omega arith
    go (k_arr w) h = omega arith

pro_long : (f : MFn) → pro_width f ≡ 10 + (f.params + f.vars)
pro_long f = let a : length (stores (λ j. 10 + j) 0 f.params ++ (l_num 5 0 ∷ stores (λ j. 5) f.params f.vars)) ≡ length (stores (λ j. 10 + j) 0 f.params) + suc (length (stores (λ j. 5) f.params f.vars)) = length-append (stores (λ j. 10 + j) 0 f.params) _ in omega (arith, a, stores-long (λ j. 10 + j) f.params 0, stores-long (λ j. 5) f.vars f.params)

each-one : {A : Type 0} (xs : List A) → each 1 xs ≡ length xs
each-one [] = refl
each-one (x ∷ xs) = omega (arith, each-one xs)

fun_long : (en : ℕ → ℕ) (m : MProg) (p : Prog) (n : Name) (g : Fn) (q : ℕ) → length (fun_row en m (gen_fn p n g) q) ≤ w_fn costs g
fun_long en m p n g q =
    let f : MFn = gen_fn p n g in
    let r : ℕ = q + pro_width f in
    let d : ℕ = words_of (slots_of g) in
    let a : length (fun_row en m f q) ≡ length (prologue q f) + length (code_of en (at_of m f f.code r) m f f.code r) = length-append (prologue q f) _ in
    let b : length (code_of en (at_of m f f.code r) m f f.code r) ≡ widths m f f.code = code_long m f en (at_of m f f.code r) f.code r in
    let c : widths m f f.code ≡ widths m f (gen_b (scope p n (slots_of g)) g.body d 0 0 0) + 9 = widths_both m f (gen_b (scope p n (slots_of g)) g.body d 0 0 0) _ in
    omega (arith, a, b, c, pro_long f, word-params g.params, each-one g.params, each-one g.vars, w-b m f (scope p n (slots_of g)) g.body d 0 0 0)

-- what stands at the top: words of code, of tables, of values
abbrev code_t : List Top → ℕ
code_t [] = 0
code_t (t ∷ ts) = opt (as_fn t) 0 (λ g. w_fn costs g) + code_t ts

abbrev table_t : List Top → ℕ
table_t [] = 0
table_t (t ∷ ts) = opt (as_table t) 0 (λ fs. length fs) + table_t ts

funs-long : (en : ℕ → ℕ) (m : MProg) (p : Prog) (ts : List Top) (q : ℕ) → length (funs_row en m (sorted as_fn (λ t g. gen_fn p t.file g) ts) q) ≤ code_t ts
funs-long en m p [] q = omega arith
funs-long en m p (t ∷ ts) q = go (as_fn t) (λ r. funs-long en m p ts r)
  where
    go : (o : Option Fn) → ((r : ℕ) → length (funs_row en m (sorted as_fn (λ u h. gen_fn p u.file h) ts) r) ≤ code_t ts) → length (funs_row en m (opt o (sorted as_fn (λ u h. gen_fn p u.file h) ts) (λ g. gen_fn p t.file g ∷ (sorted as_fn (λ u h. gen_fn p u.file h) ts))) q) ≤ opt o 0 (λ g. w_fn costs g) + code_t ts
    go none k = omega (arith, k q)
    go (some g) k = omega (arith, length-append (fun_row en m (gen_fn p t.file g) q) (funs_row en m (sorted as_fn (λ u h. gen_fn p u.file h) ts) (q + fun_width m (gen_fn p t.file g))), fun_long en m p t.file g q, k (q + fun_width m (gen_fn p t.file g)))

nos-long : (p : Prog) (f : Name) (xs : List Name) → length (fn_nos p f xs) ≡ length xs
nos-long p f [] = refl
nos-long p f (x ∷ xs) = ap suc (nos-long p f xs)

tables-long : (p : Prog) (ts : List Top) → area (tlens (sorted as_table (λ t fs. fn_nos p t.file fs) ts)) ≡ table_t ts
tables-long p [] = refl
tables-long p (t ∷ ts) = go (as_table t) (tables-long p ts)
  where
    go : (o : Option (List Name)) → area (tlens (sorted as_table (λ u fs. fn_nos p u.file fs) ts)) ≡ table_t ts → area (tlens (opt o (sorted as_table (λ u fs. fn_nos p u.file fs) ts) (λ fs. fn_nos p t.file fs ∷ sorted as_table (λ u gs. fn_nos p u.file gs) ts))) ≡ opt o 0 (λ fs. length fs) + table_t ts
    go none h = omega (arith, h)
    go (some fs) h = omega (arith, h, nos-long p t.file fs)

-- only arrays that hold something stand in the body
abbrev live_c : List Cells → ℕ
live_c [] = 0
live_c (c ∷ cs) = pick (live c.cells) (length c.cells) 0 + live_c cs

live_both : (as₁ bs : List Cells) → live_c (as₁ ++ bs) ≡ live_c as₁ + live_c bs
live_both [] bs = omega arith
live_both (c ∷ as₁) bs = omega (arith, live_both as₁ bs)

plens-live : (fl : ℕ → Bool) (cs : List Cells) → ((a : ℕ) → fl a ≡ opt (nth cs a) false (λ c. live c.cells)) → area (plens fl (lens cs)) ≡ live_c cs
plens-live fl [] h = refl
plens-live fl (c ∷ cs) h = go (fl 0) (h 0) (plens-live (λ a. fl (suc a)) cs (λ a. h (suc a)))
  where
    go : (b : Bool) → b ≡ live c.cells → area (plens (λ a. fl (suc a)) (lens cs)) ≡ live_c cs → pick b (length c.cells) 0 + area (plens (λ a. fl (suc a)) (lens cs)) ≡ pick (live c.cells) (length c.cells) 0 + live_c cs
    go b e i = rw e (ap (λ n. pick (live c.cells) (length c.cells) 0 + n) i)

data_live : (m : MProg) → data_size m ≡ live_c m.arrays
unfolding live_of
data_live m = plens-live (λ a. opt (nth m.arrays a) false (λ c. live c.cells)) m.arrays (λ a. refl)

noughts-dead : (n : ℕ) → live (replicate n 0) ≡ false
noughts-dead zero = refl
noughts-dead (suc n) = noughts-dead n

live-short : (c : Cells) → pick (live c.cells) (length c.cells) 0 ≤ length c.cells
live-short c = go (live c.cells)
  where
    go : (b : Bool) → pick b (length c.cells) 0 ≤ length c.cells
    go true = omega arith
    go false = omega arith

-- all three together, of a file's items and of all files
items-words : (f : Name) (is : List Item) (w a : ℕ) → code_t (tops f is w a) + (table_t (tops f is w a) + live_c (arrays_in is)) ≤ w_is costs is
items-words f [] w a = omega arith
items-words f (i_word x ∷ is) w a = omega (arith, items-words f is (w + 1) a)
items-words f (i_arr r ∷ is) w a = rw (noughts-dead r.size) (omega (arith, items-words f is w (a + 1)))
items-words f (i_data true x ns ∷ is) w a = omega (arith, items-words f is w (a + 1), each-one ns, live-short (record { wide = true; cells = ns }))
items-words f (i_data false x ns ∷ is) w a = omega (arith, items-words f is w (a + 1), each-one ns, live-short (record { wide = false; cells = ns }))
items-words f (i_table x fs ∷ is) w a = omega (arith, items-words f is w a, each-one fs)
items-words f (i_fn g ∷ is) w a = omega (arith, items-words f is w a)
items-words f (i_use x ys ∷ is) w a = omega (arith, items-words f is w a)

code_both : (ts us : List Top) → code_t (ts ++ us) ≡ code_t ts + code_t us
code_both [] us = omega arith
code_both (t ∷ ts) us = omega (arith, code_both ts us)

table_both : (ts us : List Top) → table_t (ts ++ us) ≡ table_t ts + table_t us
table_both [] us = omega arith
table_both (t ∷ ts) us = omega (arith, table_both ts us)

files-words : (p : Prog) (w a : ℕ) → code_t (all_tops p w a) + (table_t (all_tops p w a) + live_c (all_arrays p)) ≤ words costs p
files-words [] w a = omega arith
files-words (f ∷ fs) w a =
    let ts : List Top = tops f.name f.items w a in
    let us : List Top = all_tops fs (w + words_in f.items) (a + length (arrays_in f.items)) in
    omega (arith, code_both ts us, table_both ts us, live_both (arrays_in f.items) (all_arrays fs), items-words f.name f.items w a, files-words fs (w + words_in f.items) (a + length (arrays_in f.items)))

-- the row of instructions; the tables; the values
pub row-long : (p : Prog) → length (row_of (gen_prog p) (main_no p)) ≤ 6 + words costs p
row-long p = omega (arith, funs-long (entry_in (gen_prog p)) (gen_prog p) p (all_tops p 0 0) 6, files-words p 0 0)

words_long : (is : List LI) (q : ℕ) → length (words_from q is) ≡ length is
words_long [] q = refl
words_long (i ∷ is) q = ap suc (words_long is (suc q))

table-row-long : (en : ℕ → ℕ) (n : ℕ) (hs : List ℕ) → length (tab_row en n hs) ≡ length hs
table-row-long en n [] = refl
table-row-long en n (h ∷ hs) = ap suc (table-row-long en n hs)

table-words-long : (en : ℕ → ℕ) (n : ℕ) (ts : List (List ℕ)) → length (tab_words en n ts) ≡ area (tlens ts)
table-words-long en n [] = refl
table-words-long en n (hs ∷ ts) = length-append (tab_row en n hs) (tab_words en n ts) ∙ omega (arith, table-row-long en n hs, table-words-long en n ts)

flat-long : (fl : ℕ → Bool) (cs : List Cells) → length (flat (part fl cs)) ≡ area (plens fl (lens cs))
flat-long fl [] = refl
flat-long fl (c ∷ cs) = length-append (kept (fl 0) c).cells (flat (part (λ a. fl (suc a)) cs)) ∙ go (fl 0) (flat-long (λ a. fl (suc a)) cs)
  where
    go : (b : Bool) → length (flat (part (λ a. fl (suc a)) cs)) ≡ area (plens (λ a. fl (suc a)) (lens cs)) → length (kept b c).cells + length (flat (part (λ a. fl (suc a)) cs)) ≡ pick b (length c.cells) 0 + area (plens (λ a. fl (suc a)) (lens cs))
    go true h = omega arith
    go false h = omega arith

-- the image stands for any of this program's: as itself it would be computed at each step
module _ (m : MProg) (main : ℕ) where
  code_words_long : length (code_words m main) ≡ length (row_of m main) + tab_size m
  code_words_long = length-append (words_from 0 (row_of m main)) _ ∙ omega (arith, words_long (row_of m main) 0, table-words-long (entry_in m) ((length (row_of m main) + tab_size m) + data_words m) m.tables)

  body-long : length (code_words m main ++ data_of m) ≡ (length (row_of m main) + tab_size m) + data_size m
  body-long = length-append (code_words m main) (data_of m) ∙ omega (arith, code_words_long, flat-long (live_of m) m.arrays)

row-length : (i : Image) → i.moved ≡ [] → length (row i) ≡ 5 + length i.body
row-length i e = rw e (omega (arith, length-append i.body []))

pub image-long : (p : Prog) → length (row (image p)) ≤ 11 + words costs p
image-long p = omega (arith, row-length (image p) refl, body-long (gen_prog p) (main_no p), data_live (gen_prog p), tables-long p (all_tops p 0 0), funs-long (entry_in (gen_prog p)) (gen_prog p) p (all_tops p 0 0) 6, files-words p 0 0)
