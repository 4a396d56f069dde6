-- What the steps of a checked program keep to: all that the back end asks of them.
use mathlib.Core.Path.{◌≡◌, refl, sym, ◌∙◌, ap, subst}
use mathlib.Core.Bool.{Bool, true, false, not, false≢true}
use mathlib.Core.List.{List, [], ◌∷◌, ◌++◌}
use mathlib.Core.Option.{Option, some, none}
use Prim.Native.Nat.{ℕ, zero, suc, ◌+◌, ◌≤◌, ◌<◌, max}
use native.Mathlib.Omega.{arith}
use lib.ListN.{length, replicate}
use lib.Dec.{T, eqb, leb, leb→le}
use Rattle.language.specs.Syntax.{pick, opt, nth, Name, Kind, k_word, k_arr, Param, Arr, Fn, Item, i_word, i_arr, i_data, i_table, i_fn, i_use, Prog, stage_k, stage_ps, stage_as, stage_is, stage}
use Rattle.language.specs.Words.{all}
use Rattle.language.specs.Meaning.{Cells, Is, is_word, is_arr, is_table, is_fn, Top, tops, all_tops, as_fn, as_table}
use Rattle.language.specs.Checks.{ok, ok_fn}
use Rattle.grammar.specs.Text.{Reads}
use Rattle.steps.specs.Steps.{Opnd, o_top, o_own, Step, s_num, s_copy, s_bin, s_un, s_flag, s_getw, s_setw, s_jump, s_jz, s_call, s_table, s_out, s_ret, s_in, s_idx, s_put, s_len, MFn, MProg, m_goes, m_step, m_begin}
use Rattle.steps.specs.Generate.{words_of, arrays_of, slot_of, slots_from, shapes_of, fn_nos, sorted, gen_fn, boot, gen_prog}
use Rattle.steps.specs.Fits.{Each, Small, OpndFits, Takes, StepFits, FnFits, Costs, ProgFits, CellsFit, but_first}
use Rattle.lower.specs.Lower.{flat, live, live_of, kept, part, data_of, lens, area, size_of, slots, fun_of, others, main_no, row_of}
use Rattle.lower.specs.Correct.{BareFn, BareI, Bare}
use Rattle.lower.proofs.Lists.{none-some, nth_in}
use Rattle.lower.proofs.TopArrays.{lens-part}
use Rattle.lower.proofs.Start.{Firsts, rep_both}
use Rattle.steps.proofs.Fits.{each_++}
use borrow.Author.Tests.{eqb-true}
use Rattle.steps.proofs.Checked.{and-true, AllT, no_top, and_top, all_append, TopIs, Good, goods, fn-ok}
use Rattle.steps.proofs.FitsHold.{fits_hold}
use Rattle.steps.proofs.PlacesBound.{room-holds}
use Rattle.lower.proofs.InRow.{TopArr, Firm, Neat, fun_nth}
use Rattle.lower.proofs.BackEnd.{Tame, first_state}

pub each_nth : {A : Type 0} (Q : A → Type 0) (xs : List A) (i : ℕ) (x : A) → Each Q xs → nth xs i ≡ some x → Q x
each_nth Q [] i x h e = none-some x e
each_nth Q (y ∷ xs) zero x h e = let z : y ≡ x = cc in subst Q z h.0
each_nth Q (y ∷ xs) (suc i) x h e = each_nth Q xs i x h.1 e

-- programs in steps whose functions have no arrays, and whose tables are not empty
pub record Plain (P : MProg) : Type 0 where
  pub tables : Each (λ hs. 1 ≤ length hs) P.tables
  pub bare : Each (λ g. (g.arrays ≡ 0) × (g.own ≡ [])) P.funs

-- what is known of a function by the checks alone
abbrev pub Few : MFn → Type 0
Few g = (g.params ≤ 8) × (g.vars ≤ 64)

size_small : (cs : List Cells) (a : ℕ) → Each CellsFit cs → a < length cs → size_of (lens cs) a < all
size_small [] a h l = absurd (let z : ⊥ = omega arith in z)
size_small (c ∷ cs) zero h l = h.0.1
size_small (c ∷ cs) (suc a) h l = size_small cs a h.1 (omega arith)

no-opnds : (os : List Opnd) → length os ≡ 0 → os ≡ []
no-opnds [] h = refl
no-opnds (o ∷ os) h = absurd (let z : ⊥ = omega arith in z)

fun_is : (P : MProg) (h : ℕ) (H : MFn) → 1 ≤ h → nth P.funs h ≡ some H → fun_of P h ≡ some H
fun_is P zero H l e = absurd (let z : ⊥ = omega arith in z)
fun_is P (suc h) H l e = go P.funs e
  where
    go : (fs : List MFn) → nth fs (suc h) ≡ some H → nth (others fs) h ≡ some H
    go [] q = q
    go (f ∷ fs) q = q

module _ (P : MProg) (fits : ProgFits P) (plain : Plain P) where
  top_arr : (g : MFn) → g.arrays ≡ 0 → g.own ≡ [] → (o : Opnd) → OpndFits P g o → TopArr P o
  top_arr g a b (o_top i) h = (h, size_small P.arrays i fits.cells h)
  top_arr g a b (o_own j) h = let z : ⊥ = omega (arith, ap length b) in z

  pub called : (h n : ℕ) (os : List Opnd) → Takes P h n (length os) → (os ≡ []) × ((H : MFn) × (fun_of P h ≡ some H) × (H.params ≡ n))
  called h n os (H, e, a, b, l) = (no-opnds os (b ∙ (each_nth _ P.funs h H plain.bare e).0), (H, fun_is P h H l e, sym a))

  firm_of : (g : MFn) → g.arrays ≡ 0 → g.own ≡ [] → (s : Step) → StepFits P g s → Firm P (slots g) s
  firm_of g a b (s_num d n) h = h
  firm_of g a b (s_copy d i) h = h
  firm_of g a b (s_bin o d i j) h = h
  firm_of g a b (s_un o d i) h = h
  firm_of g a b (s_flag d i) h = h
  firm_of g a b (s_getw d i) h = h.0
  firm_of g a b (s_setw i j) h = (h.1, h.0)
  firm_of g a b (s_jump t) h = tt
  firm_of g a b (s_jz i t) h = h.0
  firm_of g a b (s_call d f k n os) h = let z = called f n os h.3 in (h.0, h.1, z.0, z.1)
  firm_of g a b (s_table d i t k n os) (p, q, r, u, (hs, e, w)) =
      let l : 1 ≤ length hs = each_nth _ P.tables t hs plain.tables e in
      let (h, z) = nth_in hs 0 (omega arith) in
      (p, q, r, (called h n os (w 0 h z)).0, (hs, e, l, λ x f y. (called f n os (w x f y)).1))
  firm_of g a b (s_out i) h = h
  firm_of g a b (s_ret i) h = h
  firm_of g a b (s_in d) h = h
  firm_of g a b (s_idx d o i) h = (h.0, h.2, top_arr g a b o h.1)
  firm_of g a b (s_put w o i j) h = (h.1, h.2, top_arr g a b o h.0)
  firm_of g a b (s_len d o) h = (h.0, top_arr g a b o h.1)

  neat_of : (j : ℕ) (F : MFn) → fun_of P j ≡ some F → Each Few (but_first P.funs) → Each (λ g. g.places ≤ (g.params + g.vars) + 731) P.funs → Neat P F
  neat_of zero F e few room = none-some F e
  neat_of (suc j) F e few room =
      let n : nth P.funs (suc j) ≡ some F = fun_nth P (suc j) F e in
      let r : F.places ≤ (F.params + F.vars) + 731 = each_nth _ P.funs (suc j) F room n in
      let k : FnFits P F = each_nth _ P.funs (suc j) F fits.funs n in
      let w : Few F = other Few P.funs few e in
      let u : Costs F = other Costs P.funs fits.costs e in
      let b : (F.arrays ≡ 0) × (F.own ≡ []) = each_nth _ P.funs (suc j) F plain.bare n in
      record { few = w.0; fits = omega arith; costs = omega arith; some_places = k.some_places; no_own = b.1; firm = λ i s q. firm_of F b.0 b.1 s (each_nth _ F.code i s k.steps q) }
    where
      other : (Q : MFn → Type 0) (fs : List MFn) → Each Q (but_first fs) → nth (others fs) j ≡ some F → Q F
      other Q [] h q = none-some F q
      other Q (f ∷ fs) h q = each_nth Q fs j F h q

-- of a program
params-few : (qs : List Param) → words_of (slots_from qs [] []) ≤ length qs
params-few [] = omega arith
params-few (q ∷ qs) = go q.kind (params-few qs)
  where
    go : (k : Kind) → words_of (slots_from qs [] []) ≤ length qs → words_of (slot_of q.name k ∷ slots_from qs [] []) ≤ suc (length qs)
    go k_word h = omega arith
    go (k_arr w) h = omega arith

few_fn : (p : Prog) (f : Name) (g : Fn) → ok_fn p f g ≡ true → Few (gen_fn p f g)
few_fn p f g o =
    let a = and-true (leb (length g.params) 8) _ o in
    let b = and-true (leb (length g.vars) 64) _ a.1 in
    let x = leb→le (length g.params) 8 (subst T (sym a.0) tt) in
    let y = leb→le (length g.vars) 64 (subst T (sym b.0) tt) in
    (omega (arith, params-few g.params), y)

-- what holds of each function of the top holds of each in steps
each-fn : (p : Prog) (Q : MFn → Type 0) (R : Top → Type 0) → ((t : Top) (g : Fn) → R t → as_fn t ≡ some g → Q (gen_fn p t.file g)) → (ts : List Top) → AllT R ts → Each Q (sorted as_fn (λ t g. gen_fn p t.file g) ts)
each-fn p Q R k [] a = tt
each-fn p Q R k (t ∷ ts) (and_top q a) = go (as_fn t) refl (each-fn p Q R k ts a)
  where
    go : (u : Option Fn) → as_fn t ≡ u → Each Q (sorted as_fn (λ t g. gen_fn p t.file g) ts) → Each Q (opt u (sorted as_fn (λ t g. gen_fn p t.file g) ts) (λ g. gen_fn p t.file g ∷ sorted as_fn (λ t g. gen_fn p t.file g) ts))
    go none e h = h
    go (some g) e h = (k t g q e, h)

abbrev BareT : Top → Type 0
BareT t = (g : Fn) → as_fn t ≡ some g → BareFn g

bare-fn : (k : Fn) → BareFn k → (g : Fn) → ◌≡◌ {A = Option Fn} (some k) (some g) → BareFn g
bare-fn k h g e = let z : k ≡ g = cc in subst BareFn z h

bare-tops : (f : Name) (is : List Item) (w a : ℕ) → Each BareI is → AllT BareT (tops f is w a)
bare-tops f [] w a h = no_top
bare-tops f (i_word x ∷ is) w a h = and_top (λ g e. none-some g e) (bare-tops f is (w + 1) a h.1)
bare-tops f (i_arr r ∷ is) w a h = and_top (λ g e. none-some g e) (bare-tops f is w (a + 1) h.1)
bare-tops f (i_data b x ns ∷ is) w a h = and_top (λ g e. none-some g e) (bare-tops f is w (a + 1) h.1)
bare-tops f (i_table x fs ∷ is) w a h = and_top (λ g e. none-some g e) (bare-tops f is w a h.1)
bare-tops f (i_fn k ∷ is) w a h = and_top (bare-fn k h.0) (bare-tops f is w a h.1)
bare-tops f (i_use x ys ∷ is) w a h = bare-tops f is w a h.1

bare-all : (p : Prog) (w a : ℕ) → Bare p → AllT BareT (all_tops p w a)
bare-all [] w a h = no_top
bare-all (f ∷ fs) w a h = all_append (tops f.name f.items w a) _ (bare-tops f.name f.items w a h.0) (bare-all fs _ _ h.1)

-- the checks refuse a table with no function
table-some : (p : Prog) (t : Top) (fs : List Name) (i : Is) → t.is ≡ i → TopIs p t.file i → as_table t ≡ some fs → 1 ≤ length (fn_nos p t.file fs)
table-some p t fs (is_word k) u o a = none-some fs (rw u at a)
table-some p t fs (is_arr k w) u o a = none-some fs (rw u at a)
table-some p t fs (is_table ks) u o a = let b : ◌≡◌ {A = Option (List Name)} (some ks) (some fs) = rw u at a in let z : ks ≡ fs = cc in go fs (subst (λ l. TopIs p t.file (is_table l)) z o)
  where
    go : (l : List Name) → TopIs p t.file (is_table l) → 1 ≤ length (fn_nos p t.file l)
    go [] q = absurd (false≢true q)
    go (x ∷ l) q = omega arith
table-some p t fs (is_fn g) u o a = none-some fs (rw u at a)

tables-some : (p : Prog) (ts : List Top) → AllT (Good p) ts → Each (λ hs. 1 ≤ length hs) (sorted as_table (λ t fs. fn_nos p t.file fs) ts)
tables-some p [] a = tt
tables-some p (t ∷ ts) (and_top q a) = go (as_table t) refl (tables-some p ts a)
  where
    go : (u : Option (List Name)) → as_table t ≡ u → Each (λ hs. 1 ≤ length hs) (sorted as_table (λ t fs. fn_nos p t.file fs) ts) → Each (λ hs. 1 ≤ length hs) (opt u (sorted as_table (λ t fs. fn_nos p t.file fs) ts) (λ fs. fn_nos p t.file fs ∷ sorted as_table (λ t fs. fn_nos p t.file fs) ts))
    go none e h = h
    go (some fs) e h = (table-some p t fs t.is refl q e, h)

-- arrays hold noughts
abbrev Nought : Cells → Type 0
Nought c = c.cells ≡ replicate (length c.cells) 0

flat_nought : (cs : List Cells) → Each Nought cs → flat cs ≡ replicate (area (lens cs)) 0
flat_nought [] h = refl
flat_nought (c ∷ cs) h = ap (λ l. l ++ flat cs) h.0 ∙ (ap (λ l. replicate (length c.cells) 0 ++ l) (flat_nought cs h.1) ∙ rep_both 0 (length c.cells) (area (lens cs)))

live_nought : (ns : List ℕ) → live ns ≡ false → ns ≡ replicate (length ns) 0
live_nought [] h = refl
live_nought (n ∷ ns) h = go (eqb n 0) refl h (λ l. live_nought ns l)
  where
    go : (b : Bool) → eqb n 0 ≡ b → pick b (live ns) true ≡ false → (live ns ≡ false → ns ≡ replicate (length ns) 0) → n ∷ ns ≡ replicate (suc (length ns)) 0
    go true e l k = ap (λ x. x ∷ ns) (eqb-true n 0 e) ∙ ap (λ r. 0 ∷ r) (k l)
    go false e l k = absurd (false≢true (sym l))

part_nought : (fl : ℕ → Bool) (cs : List Cells) → ((a : ℕ) (c : Cells) → nth cs a ≡ some c → fl a ≡ true → live c.cells ≡ false) → Each Nought (part fl cs)
part_nought fl [] h = tt
part_nought fl (c ∷ cs) h = (go (fl 0) refl, part_nought (λ i. fl (suc i)) cs (λ a d e t. h (suc a) d e t))
  where
    go : (b : Bool) → fl 0 ≡ b → Nought (kept b c)
    go true e = live_nought c.cells (h 0 c refl e)
    go false e = refl

dead-is : (P : MProg) (a : ℕ) (c : Cells) → nth P.arrays a ≡ some c → not (live_of P a) ≡ true → live c.cells ≡ false
unfolding live_of
dead-is P a c e t = go (live c.cells) (subst (λ o. not (opt o false (λ d. live d.cells)) ≡ true) e t)
  where
    go : (b : Bool) → not b ≡ true → b ≡ false
    go true z = absurd (false≢true z)
    go false z = refl

part_small : (fl : ℕ → Bool) (cs : List Cells) → Each CellsFit cs → Each Small (flat (part fl cs))
part_small fl [] h = tt
part_small fl (c ∷ cs) h = each_++ Small (kept (fl 0) c).cells (flat (part (λ i. fl (suc i)) cs)) (go (fl 0)) (part_small (λ i. fl (suc i)) cs h.1)
  where
    go : (b : Bool) → Each Small (kept b c).cells
    go true = h.0.0
    go false = tt

firsts : (P : MProg) → Each CellsFit P.arrays → Firsts P
firsts P h = (flat_nought (part (λ i. not (live_of P i)) P.arrays) (part_nought (λ i. not (live_of P i)) P.arrays (dead-is P)) ∙ ap (λ l. replicate (area l) 0) (lens-part (λ i. not (live_of P i)) P.arrays), λ i x e. each_nth Small (data_of P) i x (part_small (live_of P) P.arrays h) e)

pub plain_of : (p : Prog) → ok p ≡ true → Bare p → Plain (gen_prog p)
plain_of p o h =
    let a : AllT BareT (all_tops p 0 0) = bare-all p 0 0 h in
    record { tables = tables-some p (all_tops p 0 0) (goods p o); bare = ((refl, refl), each-fn p _ BareT (λ t g q e. ((q g e).0, ap shapes_of (q g e).1)) (all_tops p 0 0) a) }

module _ (t : List ℕ) (p : Prog) (reads : Reads t p) (o : ok p ≡ true) (b : Bare p) (short : length (row_of (gen_prog p) (main_no p)) < 262144) where
  abbrev fits : ProgFits (gen_prog p)
  fits = fits_hold p o

  pub few_all : Each Few (but_first (gen_prog p).funs)
  few_all = each-fn p Few (Good p) (λ t g q e. few_fn p t.file g (fn-ok p t g t.is refl q e)) (all_tops p 0 0) (goods p o)

  pub record Begins : Type 0 where
    pub F : MFn
    pub tame : Tame (gen_prog p) (main_no p) F
    pub goes_in : (ins : List ℕ) → m_step (gen_prog p) (m_begin (gen_prog p) ins) ≡ m_goes (first_state (gen_prog p) (main_no p) F ins)

  pub begins : Begins
  begins = go fits.funs.0.steps.0.3
    where
      go : Takes (gen_prog p) (main_no p) 0 0 → Begins
      go (F, e, a, q, l) = record { F = F; tame = record { is_main = e; none_in = sym a; neat = λ g h k. neat_of (gen_prog p) fits (plain_of p o b) g h k few_all (room-holds t p reads); short_row = short; boot = boot p; is_boot = refl; boot_ends = refl; noughts = firsts (gen_prog p) fits.cells }; goes_in = λ ins. rw e }

-- the first two stages
pick_low : (w : Bool) (n : ℕ) → max (pick w 2 5) n ≤ 1 → ⊥
pick_low true n h = omega arith
pick_low false n h = omega arith

pub kinds_low : (qs : List Param) → stage_ps qs ≤ 1 → arrays_of (slots_from qs [] []) ≡ 0
kinds_low [] h = refl
kinds_low (q ∷ qs) h = go q.kind h (λ l. kinds_low qs l)
  where
    go : (k : Kind) → max (stage_k k) (stage_ps qs) ≤ 1 → (stage_ps qs ≤ 1 → arrays_of (slots_from qs [] []) ≡ 0) → arrays_of (slot_of q.name k ∷ slots_from qs [] []) ≡ 0
    go k_word l r = r (omega arith)
    go (k_arr true) l r = absurd (let z : ⊥ = omega arith in z)
    go (k_arr false) l r = absurd (let z : ⊥ = omega arith in z)

pub arrs_low : (as₁ : List Arr) → stage_as as₁ ≤ 1 → as₁ ≡ []
arrs_low [] h = refl
arrs_low (a ∷ as₁) h = absurd (pick_low a.wide (stage_as as₁) h)

data_low : (w : Bool) (n : ℕ) → max (pick w 4 5) n ≤ 1 → ⊥
data_low true n h = omega arith
data_low false n h = omega arith

items_low : (is : List Item) → stage_is is ≤ 1 → Each BareI is
items_low [] h = tt
items_low (i_word x ∷ is) h = (tt, items_low is (omega arith))
items_low (i_arr a ∷ is) h = (tt, items_low is (omega arith))
items_low (i_data w x ns ∷ is) h = absurd (data_low w (stage_is is) h)
items_low (i_table x fs ∷ is) h = absurd (let z : ⊥ = omega arith in z)
items_low (i_fn g ∷ is) h = ((kinds_low g.params (omega arith), arrs_low g.arrs (omega arith)), items_low is (omega arith))
items_low (i_use x ys ∷ is) h = absurd (let z : ⊥ = omega arith in z)

pub bare_low : (p : Prog) → stage p ≤ 1 → Bare p
bare_low [] h = tt
bare_low (f ∷ []) h = (items_low f.items h, tt)
bare_low (f ∷ g ∷ fs) h = absurd (let z : ⊥ = omega arith in z)
