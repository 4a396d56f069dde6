-- A checked program's steps name only what is there, and its numbers are words.
use Rattle.std.proofs.Common.{◌≡◌, ℕ, suc, ◌+◌, ◌<◌, ◌≤◌, Bool, true, false, ◌&&◌, T, ltb, leb, List, [], ◌∷◌, length, sym, refl, ap, ◌∙◌, subst, arith, ltb→lt, leb→le, length-append}
use mathlib.Core.Option.{Option, some, none}
use lib.ListN.{length-replicate}
use Rattle.language.specs.Syntax.{opt, Name, call, no as no_more_es, Kind, k_word, k_arr, Param, Arr, Fn, Item, i_word, i_arr, i_data, i_table, i_fn, i_use, Prog}
use Rattle.language.specs.Words.{all}
use Rattle.language.specs.Meaning.{Top, arrays_in, all_tops, all_arrays, as_fn, names_of, first_file, w_main}
use Rattle.language.specs.Checks.{ok_fn, ok_item, ok_is, ok_fs, ok, once, sizes, words_ok, names_in, file_names, has_main, total, totals}
use Rattle.steps.specs.Steps.{s_ret, Act}
use Rattle.steps.specs.Generate.{Slot, words_of, arrays_of, slot_of, var_slots, arr_slots, slots_from, slots_of, shapes_of, scope, size_b, need_b, gen_e, gen_b, gen_body, sorted, gen_fn, boot, gen_prog}
use Rattle.steps.specs.Fits.{Each, Small, StepFits, FnFits, asks, Costs, CellsFit, MidFits, MidSmall}
use Rattle.steps.proofs.Variables.{wides}
use Rattle.steps.proofs.Match.{Fun}
use Rattle.steps.proofs.Statements.{len_b}
use Rattle.steps.proofs.Checked.{and-true, env, AllT, and_top, Good, c, wf_b, body_ok, fn-ok, goods, linked, main_fn}
use Rattle.steps.proofs.Fits.{each_++, need_pos, fits_e, fits_b}
use Rattle.steps.proofs.SmallWords.{each_replicate, zero-small, small-run}

-- how many own names are words, and arrays
arr-count : (bs : List Arr) → (words_of (arr_slots bs) ≡ 0) × (arrays_of (arr_slots bs) ≡ length (shapes_of bs))
arr-count [] = (refl, refl)
arr-count (b ∷ bs) = let h = arr-count bs in (h.0, ap suc h.1)

var-count : (xs : List Name) (bs : List Arr) → (words_of (var_slots xs bs) ≡ length xs) × (arrays_of (var_slots xs bs) ≡ length (shapes_of bs))
var-count [] bs = arr-count bs
var-count (x ∷ xs) bs = let h = var-count xs bs in (ap suc h.0, h.1)

abbrev pub Counts : List Slot → List Slot → ℕ → ℕ → Type 0
Counts a b n m = (words_of a ≡ words_of b + n) × (arrays_of a ≡ arrays_of b + m)

pub slot_count : (qs : List Param) (xs : List Name) (bs : List Arr) → Counts (slots_from qs xs bs) (slots_from qs [] []) (length xs) (length (shapes_of bs))
slot_count [] xs bs = let h = var-count xs bs in (omega (arith, h.0), omega (arith, h.1))
slot_count (q ∷ qs) xs bs = go q.kind (slot_count qs xs bs)
  where
    go : (k : Kind) → Counts (slots_from qs xs bs) (slots_from qs [] []) (length xs) (length (shapes_of bs)) → Counts (slot_of q.name k ∷ slots_from qs xs bs) (slot_of q.name k ∷ slots_from qs [] []) (length xs) (length (shapes_of bs))
    go k_word h = (omega (arith, h.0), h.1)
    go (k_arr w) h = (h.0, omega (arith, h.1))

sizes-small : (bs : List Arr) → sizes 4096 bs ≡ true → Each (λ z. Small z.size) (shapes_of bs)
sizes-small [] o = tt
sizes-small (b ∷ bs) o = let s = and-true (leb 1 b.size) (leb b.size 4096 && sizes 4096 bs) o in let r = and-true (leb b.size 4096) (sizes 4096 bs) s.1 in let l = leb→le b.size 4096 (subst T (sym r.0) tt) in (omega arith, sizes-small bs r.1)

arrs-ok : (p : Prog) (f : Name) (g : Fn) → ok_fn p f g ≡ true → sizes 4096 g.arrs ≡ true
arrs-ok p f g o = let a = and-true (leb (length g.params) 8) _ o in let b = and-true (leb (length g.vars) 64) _ a.1 in let d = and-true (leb (length g.arrs) 16) _ b.1 in (and-true (sizes 4096 g.arrs) _ d.1).0

module _ (p : Prog) (o : ok p ≡ true) where
  fn_fits : (f : Name) (g : Fn) → ok_fn p f g ≡ true → FnFits (gen_prog p) (gen_fn p f g)
  fn_fits f g h = record { steps = each_++ _ (gen_b Γ g.body d 0 0 0) _ (fits_b (env p) (linked p o) k (omega (arith, n.1)) g.body false d 0 0 0 (wf_b p (goods p o) f g j [] g.body false (body_ok p f g h)) (omega arith) (omega arith) (omega (arith, len)) (omega (arith, len)) (omega (arith, len))) ((omega (arith, pos), zero-small), (omega (arith, pos), tt)); some_places = omega (arith, n.0); sizes = sizes-small g.arrs (arrs-ok p f g h) }
    where
      j : Act
      j = record { fn = 0; arrs = [] }

      k : Fun
      k = c p (goods p o) f g j []

      Γ : Rattle.steps.specs.Generate.Scope
      Γ = scope p f (slots_of g)

      d : ℕ
      d = words_of (slots_of g)

      n : Counts (slots_of g) (slots_from g.params [] []) (length g.vars) (length (shapes_of g.arrs))
      n = slot_count g.params g.vars g.arrs

      pos : 1 ≤ need_b Γ g.body
      pos = need_pos g.body Γ

      len : length (gen_body Γ g.body d) ≡ size_b Γ g.body + 2
      len = length-append (gen_b Γ g.body d 0 0 0) _ ∙ ap (λ i. i + 2) (len_b g.body Γ d 0 0 0)

  all_fit : (ts : List Top) → AllT (Good p) ts → Each (FnFits (gen_prog p)) (sorted as_fn (λ t g. gen_fn p t.file g) ts)
  all_fit [] a = tt
  all_fit (t ∷ ts) (and_top q a) = go (as_fn t) refl (all_fit ts a)
    where
      go : (u : Option Fn) → as_fn t ≡ u → Each (FnFits (gen_prog p)) (sorted as_fn (λ t g. gen_fn p t.file g) ts) → Each (FnFits (gen_prog p)) (opt u (sorted as_fn (λ t g. gen_fn p t.file g) ts) (λ g. gen_fn p t.file g ∷ sorted as_fn (λ t g. gen_fn p t.file g) ts))
      go none e h = h
      go (some g) e h = (fn_fits t.file g (fn-ok p t g t.is refl q e), h)

  boot_fits : FnFits (gen_prog p) (boot p)
  boot_fits = record { steps = each_++ (StepFits (gen_prog p) (boot p)) (gen_e (scope p (first_file p) []) (call w_main no_more_es) 0 0) (s_ret 0 ∷ []) (fits_e (env p) (linked p o) (record { file = first_file p; Γ = scope p (first_file p) []; j = record { fn = 0; arrs = [] }; G = boot p; ws = wides (all_arrays p) }) (omega arith) (call w_main no_more_es) 0 0 (main_fn p o).wf (omega arith) (omega arith) (omega arith)) (omega arith, tt); some_places = omega arith; sizes = tt }

words_small : (w : Bool) (ns : List ℕ) → words_ok w ns ≡ true → Each Small ns
words_small w [] e = tt
words_small true (n ∷ ns) e = let d = and-true (ltb n 4294967296) (words_ok true ns) e in (ltb→lt n 4294967296 (subst T (sym d.0) tt), words_small true ns d.1)
words_small false (n ∷ ns) e = let d = and-true (ltb n 256) (words_ok false ns) e in let l = ltb→lt n 256 (subst T (sym d.0) tt) in (omega arith, words_small false ns d.1)

items-cells : (p : Prog) (f : Name) (is : List Item) → ok_is p f is ≡ true → total is < all → Each CellsFit (arrays_in is)
items-cells p f [] e l = tt
items-cells p f (i_word x ∷ is) e l = items-cells p f is e l
items-cells p f (i_arr r ∷ is) e l = ((each_replicate Small r.size 0 zero-small, omega (arith, length-replicate {A = ℕ} r.size 0)), items-cells p f is (and-true (ok_item p f (i_arr r)) (ok_is p f is) e).1 (omega arith))
items-cells p f (i_data d x ns ∷ is) e l = let b = and-true (ok_item p f (i_data d x ns)) (ok_is p f is) e in ((words_small d ns (and-true (leb 1 (length ns)) (words_ok d ns) b.0).1, omega arith), items-cells p f is b.1 (omega arith))
items-cells p f (i_table x fs ∷ is) e l = items-cells p f is (and-true (ok_item p f (i_table x fs)) (ok_is p f is) e).1 l
items-cells p f (i_fn g ∷ is) e l = items-cells p f is (and-true (ok_fn p f g) (ok_is p f is) e).1 l
items-cells p f (i_use x ys ∷ is) e l = items-cells p f is (and-true (ok_item p f (i_use x ys)) (ok_is p f is) e).1 l

files-cells : (p fs : Prog) → ok_fs p fs ≡ true → totals fs < all → Each CellsFit (all_arrays fs)
files-cells p [] e l = tt
files-cells p (f ∷ fs) e l = let s = and-true (once (names_in f.items)) (ok_is p f.name f.items && ok_fs p fs) e in let r = and-true (ok_is p f.name f.items) (ok_fs p fs) s.1 in each_++ CellsFit (arrays_in f.items) (all_arrays fs) (items-cells p f.name f.items r.0 (omega arith)) (files-cells p fs r.1 (omega arith))

params-count : (qs : List Param) → words_of (slots_from qs [] []) + arrays_of (slots_from qs [] []) ≡ length qs
params-count [] = refl
params-count (q ∷ qs) = go q.kind (params-count qs)
  where
    go : (k : Kind) → words_of (slots_from qs [] []) + arrays_of (slots_from qs [] []) ≡ length qs → words_of (slot_of q.name k ∷ slots_from qs [] []) + arrays_of (slot_of q.name k ∷ slots_from qs [] []) ≡ suc (length qs)
    go k_word h = omega arith
    go (k_arr w) h = omega arith

asks-names : (bs : List Arr) → names_of bs ≡ asks (shapes_of bs)
asks-names [] = refl
asks-names (b ∷ bs) = ap (λ n. (2 + b.size) + n) (asks-names bs)

fn-costs : (p : Prog) (f : Name) (g : Fn) → Costs (gen_fn p f g)
fn-costs p f g = omega (arith, params-count g.params, asks-names g.arrs)

all-cost : (p : Prog) (ts : List Top) → Each Costs (sorted as_fn (λ t g. gen_fn p t.file g) ts)
all-cost p [] = tt
all-cost p (t ∷ ts) = go (as_fn t) (all-cost p ts)
  where
    go : (u : Option Fn) → Each Costs (sorted as_fn (λ t g. gen_fn p t.file g) ts) → Each Costs (opt u (sorted as_fn (λ t g. gen_fn p t.file g) ts) (λ g. gen_fn p t.file g ∷ sorted as_fn (λ t g. gen_fn p t.file g) ts))
    go none h = h
    go (some g) h = (fn-costs p t.file g, h)

pub fits_hold : MidFits
fits_hold p o = let a = and-true (once (file_names p)) _ o in let b = and-true (has_main p) _ a.1 in let d = and-true (leb (totals p) 262144) _ b.1 in let l = leb→le (totals p) 262144 (subst T (sym d.0) tt) in record { funs = (boot_fits p o, all_fit p o (all_tops p 0 0) (goods p o)); cells = files-cells p p d.1 (omega arith); costs = all-cost p (all_tops p 0 0) }

pub small-holds : MidSmall
small-holds p o ins i k z e = small-run (gen_prog p) (fits_hold p o) ins i k z e
