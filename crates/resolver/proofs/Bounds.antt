-- Every number that a name stands for is below the length of the program's row, so it is a word.
use Rattle.std.proofs.Common.{◌≡◌, ℕ, suc, ◌+◌, ◌<◌, ◌≤◌, Bool, true, false, ◌&&◌, leb, List, [], ◌∷◌, length, refl, ap, arith, length-append, leb-true}
use mathlib.Core.Option.{Option, some, none}
use Rattle.language.specs.Syntax.{pick, opt, Name, same, Param, Arr, Fn, Item, i_word, i_arr, i_data, i_table, i_fn, i_use, Prog}
use Rattle.language.specs.Meaning.{Is, is_word, is_arr, is_table, is_fn, Top, tops, all_tops, words_in, arrays_in, top_of, used_in, items_of, resolve}
use Rattle.language.specs.Checks.{ok_fn}
use Rattle.steps.specs.Generate.{Slot, w_slot, a_slot, Ref, r_word, r_arr, find, pos, number, scope, slots_from, slots_of}
use Rattle.steps.proofs.Checked.{AllT, no_top, and_top, all_append, all-resolve, and-true}
use Rattle.steps.proofs.Variables.{none-some, some_inj}
use Rattle.rows.specs.Trees.{list_row, item_row, file_row}
use Rattle.names.specs.Finds.{ref_index}
use Rattle.names.specs.Refer.{of_ref, of_is, meant}
use Rattle.names.specs.declared.found.Reference.TheVariants.{Other}
use Rattle.resolver.specs.Sound.{Sound}
use Rattle.resolver.specs.Stands.{Fits}

-- how many items there are
unfoldable pub items_count : Prog → ℕ
items_count [] = 0
items_count (f ∷ fs) = length f.items + items_count fs

pub items-long : (is : List Item) → length is ≤ length (list_row item_row is)
items-long [] = omega arith
items-long (i ∷ is) = omega (arith, items-long is, length-append (item_row i) (list_row item_row is))

pub files-long : (p : Prog) → items_count p ≤ length (list_row file_row p)
unfolding items_count
files-long [] = omega arith
files-long (f ∷ fs) = omega (arith, files-long fs, items-long f.items, length-append (file_row f) (list_row file_row fs), length-append (length f.name ∷ f.name) (length f.items ∷ list_row item_row f.items))

pub few-items : {row : List ℕ} {p : Prog} → Sound row p → items_count p < 4294967295
few-items {row} {p} s = omega (arith, s.short, ap length s.is, files-long p)

-- of what stands at the top
tops-few : (f : Name) (is : List Item) (w a : ℕ) → length (tops f is w a) ≤ length is
tops-few f [] w a = omega arith
tops-few f (i_word x ∷ is) w a = omega (arith, tops-few f is (w + 1) a)
tops-few f (i_arr r ∷ is) w a = omega (arith, tops-few f is w (a + 1))
tops-few f (i_data d x ns ∷ is) w a = omega (arith, tops-few f is w (a + 1))
tops-few f (i_table x fs ∷ is) w a = omega (arith, tops-few f is w a)
tops-few f (i_fn g ∷ is) w a = omega (arith, tops-few f is w a)
tops-few f (i_use x ys ∷ is) w a = omega (arith, tops-few f is w a)

all-few : (p : Prog) (w a : ℕ) → length (all_tops p w a) ≤ items_count p
unfolding items_count
all-few [] w a = omega arith
all-few (f ∷ fs) w a =
    let w2 = w + words_in f.items in
    let a2 = a + length (arrays_in f.items) in
    omega (arith, tops-few f.name f.items w a, all-few fs w2 a2, length-append (tops f.name f.items w a) (all_tops fs w2 a2))

pos-few : {A : Type 0} (is : Top → Option A) (ts : List Top) (f x : Name) → pos is ts f x ≤ length ts
pos-few is [] f x = omega arith
pos-few {A} is (t ∷ ts) f x = go (same t.file f && same t.name x) (is t) (pos-few is ts f x)
  where
    go : (b : Bool) (o : Option A) → pos is ts f x ≤ length ts → pick b 0 (opt o (pos is ts f x) (λ a. suc (pos is ts f x))) ≤ suc (length ts)
    go true o l = omega arith
    go false none l = omega arith
    go false (some a) l = omega arith

number-few : {A : Type 0} (is : Top → Option A) (p : Prog) (f x : Name) → number is p f x ≤ items_count p
number-few is p f x = go (top_of (all_tops p 0 0) f x) (used_in (items_of p f) x)
  where
    lim : (g : Name) → pos is (all_tops p 0 0) g x ≤ items_count p
    lim g = omega (arith, pos-few is (all_tops p 0 0) g x, all-few p 0 0)

    go : (o : Option Top) (u : Option Name) → opt o (opt u 0 (λ g. pos is (all_tops p 0 0) g x)) (λ t. pos is (all_tops p 0 0) f x) ≤ items_count p
    go (some t) u = lim f
    go none none = omega arith
    go none (some g) = lim g

-- a function's or a table's number, and the next
pub number_fits : {row : List ℕ} {p : Prog} {A : Type 0} (is : Top → Option A) (f x : Name) → Sound row p → number is p f x < 4294967295
number_fits {row} {p} is f x s = omega (arith, number-few is p f x, few-items s)

-- words and arrays at the top
abbrev Below : ℕ → Top → Type 0
Below n t = go t.is
  where
    go : Is → Type 0
    go (is_word i) = i < n
    go (is_arr a w) = a < n
    go (is_table fs) = Unit {0}
    go (is_fn g) = Unit {0}

tops-below : (n : ℕ) (f : Name) (is : List Item) (w a : ℕ) → w + length is ≤ n → a + length is ≤ n → AllT (Below n) (tops f is w a)
tops-below n f [] w a l m = no_top
tops-below n f (i_word x ∷ is) w a l m = and_top (omega arith) (tops-below n f is (w + 1) a (omega arith) (omega arith))
tops-below n f (i_arr r ∷ is) w a l m = and_top (omega arith) (tops-below n f is w (a + 1) (omega arith) (omega arith))
tops-below n f (i_data d x ns ∷ is) w a l m = and_top (omega arith) (tops-below n f is w (a + 1) (omega arith) (omega arith))
tops-below n f (i_table x fs ∷ is) w a l m = and_top tt (tops-below n f is w a (omega arith) (omega arith))
tops-below n f (i_fn g ∷ is) w a l m = and_top tt (tops-below n f is w a (omega arith) (omega arith))
tops-below n f (i_use x ys ∷ is) w a l m = tops-below n f is w a (omega arith) (omega arith)

words-few : (is : List Item) → words_in is ≤ length is
words-few [] = omega arith
words-few (i_word x ∷ is) = omega (arith, words-few is)
words-few (i_arr r ∷ is) = omega (arith, words-few is)
words-few (i_data d x ns ∷ is) = omega (arith, words-few is)
words-few (i_table x fs ∷ is) = omega (arith, words-few is)
words-few (i_fn g ∷ is) = omega (arith, words-few is)
words-few (i_use x ys ∷ is) = omega (arith, words-few is)

arrays-few : (is : List Item) → length (arrays_in is) ≤ length is
arrays-few [] = omega arith
arrays-few (i_word x ∷ is) = omega (arith, arrays-few is)
arrays-few (i_arr r ∷ is) = omega (arith, arrays-few is)
arrays-few (i_data d x ns ∷ is) = omega (arith, arrays-few is)
arrays-few (i_table x fs ∷ is) = omega (arith, arrays-few is)
arrays-few (i_fn g ∷ is) = omega (arith, arrays-few is)
arrays-few (i_use x ys ∷ is) = omega (arith, arrays-few is)

all-below : (n : ℕ) (p : Prog) (w a : ℕ) → w + items_count p ≤ n → a + items_count p ≤ n → AllT (Below n) (all_tops p w a)
unfolding items_count
all-below n [] w a l m = no_top
all-below n (f ∷ fs) w a l m =
    let w2 = w + words_in f.items in
    let a2 = a + length (arrays_in f.items) in
    let lw = words-few f.items in
    let la = arrays-few f.items in
    all_append (tops f.name f.items w a) (all_tops fs w2 a2) (tops-below n f.name f.items w a (omega arith) (omega arith)) (all-below n fs w2 a2 (omega arith) (omega arith))

-- a function's own names
find-below : (ss : List Slot) (x : Name) (i j : ℕ) (r : Ref) → find ss x i j ≡ some r → ref_index r < i + j + length ss
find-below [] x i j r e = absurd (none-some e)
find-below (w_slot y ∷ ys) x i j r e = go (same y x) e (λ d. find-below ys x (suc i) j r d)
  where
    go : (b : Bool) → pick b (some (r_word i)) (find ys x (suc i) j) ≡ some r → (find ys x (suc i) j ≡ some r → ref_index r < suc i + j + length ys) → ref_index r < i + j + suc (length ys)
    go true d k = omega (arith, ap ref_index (some_inj d))
    go false d k = omega (arith, k d)
find-below (a_slot y w ∷ ys) x i j r e = go (same y x) e (λ d. find-below ys x i (suc j) r d)
  where
    go : (b : Bool) → pick b (some (r_arr j w)) (find ys x i (suc j)) ≡ some r → (find ys x i (suc j) ≡ some r → ref_index r < i + suc j + length ys) → ref_index r < i + j + suc (length ys)
    go true d k = omega (arith, ap ref_index (some_inj d))
    go false d k = omega (arith, k d)

slots-long : (qs : List Param) (xs : List Name) (as₁ : List Arr) → length (slots_from qs xs as₁) ≡ length qs + (length xs + length as₁)
slots-long [] [] [] = refl
slots-long [] [] (a ∷ as₁) = omega (arith, slots-long [] [] as₁)
slots-long [] (x ∷ xs) as₁ = omega (arith, slots-long [] xs as₁)
slots-long (q ∷ qs) xs as₁ = omega (arith, slots-long qs xs as₁)

few-slots : (p : Prog) (f : Name) (g : Fn) → ok_fn p f g ≡ true → length (slots_of g) ≤ 88
few-slots p f g e =
    let a = and-true (leb (length g.params) 8) _ e in
    let b = and-true (leb (length g.vars) 64) _ a.1 in
    let c = and-true (leb (length g.arrs) 16) _ b.1 in
    let la = leb-true (length g.params) 8 a.0 in
    let lb = leb-true (length g.vars) 64 b.0 in
    let lc = leb-true (length g.arrs) 16 c.0 in
    omega (arith, slots-long g.params g.vars g.arrs, la, lb, lc)

-- what a name of a body stands for
pub meant_fits : {row : List ℕ} {p : Prog} (f : Name) (g : Fn) (x : Name) → Sound row p → ok_fn p f g ≡ true → Fits (meant (scope p f (slots_of g)) x)
meant_fits {row} {p} f g x s k = go (find (slots_of g) x 0 0) refl
  where
    own : (r : Ref) → ref_index r < 88 → Fits (of_ref r)
    own (r_word i) l = omega arith
    own (r_arr i w) l = omega arith

    top : (i : Is) (h y : Name) → Below (items_count p) (record { file = h; name = y; is = i }) → Fits (of_is i)
    top (is_word i) h y b = omega (arith, b, few-items s)
    top (is_arr a w) h y b = omega (arith, b, few-items s)
    top (is_table fs) h y b = tt
    top (is_fn u) h y b = tt

    by_top : (t : Option Top) → resolve p f x ≡ t → Fits (opt t Other (λ u. of_is u.is))
    by_top none e = tt
    by_top (some t) e = top t.is t.file t.name (all-resolve p f x t (all-below (items_count p) p 0 0 (omega arith) (omega arith)) e)

    go : (r : Option Ref) → find (slots_of g) x 0 0 ≡ r → Fits (opt r (opt (resolve p f x) Other (λ u. of_is u.is)) of_ref)
    go (some r) e = own r (omega (arith, find-below (slots_of g) x 0 0 r e, few-slots p f g k))
    go none e = by_top (resolve p f x) refl
