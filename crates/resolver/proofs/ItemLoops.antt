-- The loops over items and files: what is pushed for those of a sort, and how many there are.
use Rattle.std.proofs.Common.{◌≡◌, ℕ, suc, ◌<◌, ◌≤◌, Bool, true, false, ◌&&◌, eqb, leb, List, [], ◌∷◌, length, sym, refl, ap, ◌∙◌, arith, length-append}
use Rattle.language.specs.Syntax.{opt, Name, Item, i_table, File, Param, Prog}
use Rattle.language.specs.Words.{bit}
use Rattle.language.specs.Checks.{fn_named, head_fn, same_ps, alike, ok_item, ok_is, ok_fs, once, names_in, file_names, has_main, totals, ok}
use Rattle.rows.specs.declared.row.Row.{Row}
use Rattle.rows.specs.Row.{Pushed}
use Rattle.rows.specs.Has.{Has, named}
use Rattle.rows.specs.Trees.{list_row, item_no, item_row, file_row, prog_row}
use Rattle.rows.proofs.Writing.{pushed_more}
use Rattle.steps.specs.Fits.{Each}
use Rattle.steps.specs.Generate.{fn_no, fn_nos}
use Rattle.steps.proofs.Checked.{and-true, opt_true}
use Rattle.generator.specs.ResolvedRows.{table_words}
use Rattle.resolver.specs.Sound.{Sound, Known}
use Rattle.resolver.specs.Items.{sum_of, is_sort, sort_in}
use Rattle.resolver.proofs.Bounds.{items_count, items-long, files-long, few-items}
use Rattle.resolver.proofs.CheckedNodes.{known_alike}
use Rattle.resolver.proofs.Walking.{pushed_as}

-- a table's functions
abbrev pub number_to : Prog → Name → Name → List ℕ
number_to p f x = fn_no p f x ∷ []

pub numbers_to : (p : Prog) (f : Name) (xs : List Name) → list_row (number_to p f) xs ≡ fn_nos p f xs
numbers_to p f [] = refl
numbers_to p f (x ∷ xs) = ap (λ (l : List ℕ). fn_no p f x ∷ l) (numbers_to p f xs)

numbers-length : (p : Prog) (f : Name) (xs : List Name) → length (fn_nos p f xs) ≡ length xs
numbers-length p f [] = refl
numbers-length p f (x ∷ xs) = ap suc (numbers-length p f xs)

pub known_names : (p : Prog) (f x : Name) (xs : List Name) → ok_item p f (i_table x xs) ≡ true → Each (Known p f) xs
known_names p f x xs e = let z = opt_true (head_fn p f xs) (λ qs. alike p f qs xs) e in go z.0 xs z.2
  where
    go : (qs : List Param) (ys : List Name) → alike p f qs ys ≡ true → Each (Known p f) ys
    go qs [] a = tt
    go qs (y ∷ ys) a = (known_alike p f y qs ys a, go qs ys (and-true (opt (fn_named p f y) false (λ h. same_ps qs h.params)) (alike p f qs ys) a).1)

pub names-few : {w : List ℕ} {a : ℕ} (xs : List Name) → length w < 4294967296 → Has w a (length xs ∷ list_row named xs) → length xs < 4294967296
names-few xs l h = omega (arith, l, h.inside, long xs)
  where
    long : (xs : List Name) → length xs ≤ length (list_row named xs)
    long [] = omega arith
    long (x ∷ xs) = omega (arith, long xs, length-append (named x) (list_row named xs))

pub table-pushed : {o q r : Row} {n m : ℕ} (p : Prog) (f : Name) (xs : List Name) → n ≡ length xs → m ≡ n → Pushed o q (m ∷ []) → Pushed q r (fn_nos p f xs) → Pushed o r (table_words (fn_nos p f xs))
table-pushed p f xs en em a b = pushed_as (ap (λ (k : ℕ). k ∷ fn_nos p f xs) (em ∙ en ∙ sym (numbers-length p f xs))) (pushed_more a b)

-- the checks of items and files
abbrev pub RightItem : Prog → Name → Item → Type 0
RightItem p f i = ok_item p f i ≡ true

pub right-items : (p : Prog) (f : Name) (is : List Item) → ok_is p f is ≡ true → Each (RightItem p f) is
right-items p f [] e = tt
right-items p f (i ∷ is) e = let z = and-true (ok_item p f i) (ok_is p f is) e in (z.0, right-items p f is z.1)

abbrev pub RightFile : Prog → File → Type 0
RightFile p f = ok_is p f.name f.items ≡ true

pub right-files : (p q : Prog) → ok_fs p q ≡ true → Each (RightFile p) q
right-files p [] e = tt
right-files p (f ∷ fs) e =
    let y = and-true (once (names_in f.items)) (ok_is p f.name f.items && ok_fs p fs) e in
    let z = and-true (ok_is p f.name f.items) (ok_fs p fs) y.1 in
    (z.0, right-files p fs z.1)

pub right-all : (p : Prog) → ok p ≡ true → Each (RightFile p) p
right-all p e =
    let a = and-true (once (file_names p)) _ e in
    let b = and-true (has_main p) _ a.1 in
    let c = and-true (leb (totals p) 262144) _ b.1 in
    right-files p p c.1

-- no more than the row's words
bit_le : (b : Bool) → bit b ≤ 1
bit_le true = omega arith
bit_le false = omega arith

sort_few : (n : ℕ) (is : List Item) → sum_of (is_sort n) is ≤ length is
sort_few n [] = omega arith
sort_few n (i ∷ is) = omega (arith, bit_le (eqb (item_no i) n), sort_few n is)

sorts_few : (n : ℕ) (p : Prog) → sum_of (sort_in n) p ≤ items_count p
unfolding items_count
sorts_few n [] = omega arith
sorts_few n (f ∷ fs) = omega (arith, sort_few n f.items, sorts_few n fs)

pub sort_small : {w : List ℕ} {a : ℕ} (n : ℕ) (f : File) → length w < 18446744073709551616 → Has w a (file_row f) → sort_in n f < 18446744073709551616
sort_small n f small h = omega (arith, sort_few n f.items, h.inside, items-long f.items, length-append (named f.name) (length f.items ∷ list_row item_row f.items))

pub sorts_small : {w : List ℕ} (n : ℕ) (p : Prog) → length w < 18446744073709551616 → w ≡ prog_row p → sum_of (sort_in n) p < 18446744073709551616
sorts_small n p small e = omega (arith, sorts_few n p, files-long p, ap length e)

pub sorts_fit : {w : List ℕ} {p : Prog} (n : ℕ) → Sound w p → sum_of (sort_in n) p < 4294967296
sorts_fit {w} {p} n s = omega (arith, sorts_few n p, few-items s)
