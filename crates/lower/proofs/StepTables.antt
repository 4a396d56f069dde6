-- A call by a table: the function's entry is found behind the code.
use mathlib.Core.Path.{◌≡◌, refl, sym, ap, subst, ◌∙◌}
use mathlib.Core.Bool.{true, false}
use mathlib.Core.List.{List, [], ◌∷◌, ◌++◌}
use mathlib.Core.Option.{Option, some, none}
use Prim.Native.Nat.{ℕ, zero, suc, ◌+◌, ◌-◌, ◌*◌, ◌%◌, ◌≤◌, ◌<◌}
use native.Mathlib.Omega.{arith}
use native.Mathlib.Decide.{dec_lt}
use lib.ListN.{length}
use lib.Dec.{eqb, ltb}
use borrow.Author.Tests.{lt-ltb, le-ltb}
use Rattle.language.specs.Syntax.{opt, nth}
use Rattle.language.specs.Words.{all, bit, add}
use Rattle.steps.specs.Steps.{Opnd, s_table, arrs_at, MFn, MSt, m_goes, m_traps, m_stuck, exec, args, enters}
use Rattle.lower.specs.Lower.{high, low, area, begin_of, size_of, tlens, tab_size, tab_long, tab_at, data_words, fun_of, slots, loads}
use Rattle.lower.proofs.Lists.{nth_in, nth_low, none-some}
use Rattle.lower.proofs.Instructions.{V, LI, l_callr, l_sw, Steps, here, ◌▸◌, d_lw, d_num, d_lui, d_alui, d_alu, d_addg, d_lwc, d_callr, floor_at, address}
use Rattle.lower.proofs.Runs.{taken_bnz, left_bnz}
use Rattle.lower.proofs.Operators.{num-is, regs_to, seg_right, past_both}
use Rattle.lower.proofs.InRow.{Seg, fun_nth}
use Rattle.lower.proofs.Match.{Ctx, Match, Does, by-opt}
use Rattle.lower.proofs.StepWords.{add_turn, below_floor, here_is, then_is, firm}
use Rattle.lower.proofs.StepArrays.{elem_at}
use Rattle.lower.proofs.StepCalls.{called}

-- a table is a part of all tables' words
pub tab_in : (ts : List (List ℕ)) (t : ℕ) (hs : List ℕ) → nth ts t ≡ some hs → begin_of (tlens ts) t + length hs ≤ area (tlens ts)
tab_in [] t hs e = none-some hs e
tab_in (k ∷ ts) zero hs e = let z : k ≡ hs = cc in omega (arith, ap length z)
tab_in (k ∷ ts) (suc t) hs e = omega (arith, tab_in ts t hs e)

tab_size-is : (ts : List (List ℕ)) (t : ℕ) (hs : List ℕ) → nth ts t ≡ some hs → size_of (tlens ts) t ≡ length hs
tab_size-is [] t hs e = none-some hs e
tab_size-is (k ∷ ts) zero hs e = let z : k ≡ hs = cc in ap length z
tab_size-is (k ∷ ts) (suc t) hs e = tab_size-is ts t hs e

module _ (c : Ctx) (s : MSt) (v : V) (h : Match c s v) (d i t k n : ℕ) (os : List Opnd) (p : nth h.f.code s.pc ≡ some (s_table d i t k n os)) (hs : List ℕ) (e : nth c.prog.tables t ≡ some hs) (x : ℕ) (m : nth v.cells (v.sp + suc i) ≡ some x) where
  abbrev B : ℕ
  B = begin_of (tlens c.prog.tables) t

  abbrev C : ℕ
  C = length c.env.code

  abbrev at_t : ℕ
  at_t = (C - tab_size c.prog) + B

  long_is : tab_long c.prog t ≡ length hs
  long_is = ap (λ l. l % all) (tab_size-is c.prog.tables t hs e) ∙ omega (arith, tab_in c.prog.tables t hs e, c.tabs_in, c.env.in_words)

  looked : add (high (tab_long c.prog t)) (low (tab_long c.prog t)) ≡ length hs
  looked = num-is (tab_long c.prog t) (omega arith) ∙ long_is

  out_of : nth hs x ≡ none → eqb (bit (ltb x (add (high (tab_long c.prog t)) (low (tab_long c.prog t))))) 0 ≡ true
  out_of z = ap (λ l. eqb (bit (ltb x l)) 0) looked ∙ ap (λ b. eqb (bit b) 0) (le-ltb x (length hs) (go (dec_lt x (length hs))))
    where
      go : Dec (x < length hs) → length hs ≤ x
      go (yes l) = let (y, q) = nth_in hs x l in none-some y (sym z ∙ q)
      go (no l) = omega arith

  one_of : x < length hs → eqb (bit (ltb x (add (high (tab_long c.prog t)) (low (tab_long c.prog t))))) 0 ≡ false
  one_of l = ap (λ y. eqb (bit (ltb x y)) 0) looked ∙ ap (λ b. eqb (bit b) 0) (lt-ltb x (length hs) l)

  traps : nth hs x ≡ none → Does c v (m_traps 1 s)
  traps z =
      let g = here_is c s v h (s_table d i t k n os) p in (
        _,
        d_lw g.0 tt m ▸ d_lui g.1.0 tt ▸ d_alui g.1.1.0 tt tt ▸ d_alu g.1.1.1.0 tt tt tt ▸ left_bnz g.1.1.1.1.0 tt (out_of z) ▸ d_num g.1.1.1.1.1.0 tt (omega arith) ▸ d_num g.1.1.1.1.1.1.0 tt (omega arith) ▸ here,
        record { calls = g.1.1.1.1.1.1.1.0; number = refl; with = refl; is_ins = h.is_ins; is_outs = h.is_outs },
      )

  -- where the table begins, as an address
  tab_begins : x < length hs → add (add (high (tab_at c.prog t)) (floor_at c.env)) (low (tab_at c.prog t)) ≡ 4 * (length c.env.pre + at_t)
  tab_begins l =
      let in_all : B + length hs ≤ tab_size c.prog = tab_in c.prog.tables t hs e in
      let z : data_words c.prog + (tab_size c.prog - B) ≡ (C + c.env.floor) - at_t = omega (arith, c.tabs_in, c.floor_is) in
      let y : 4 * ((length c.env.pre + C) + c.env.floor) ≡ 4 * (length c.env.pre + (C + c.env.floor)) = omega arith in
      add_turn _ (floor_at c.env) _ ∙ ap (λ q. add q (floor_at c.env)) (num-is (tab_at c.prog t) (omega arith) ∙ ap (λ q. (all - 4 * q) % all) z) ∙ below_floor (length c.env.pre) (C + c.env.floor) at_t (floor_at c.env) (omega (arith, c.tabs_in)) (omega (arith, c.env.in_words, c.env.floor_in)) (ap (λ q. q % all) y)

  module _ (g : ℕ) (z : nth hs x ≡ some g) (T : MFn) (j : fun_of c.prog g ≡ some T) where
    low_x : x < length hs
    low_x = nth_low hs x g z

    word_place : add (add (add (high (tab_at c.prog t)) (floor_at c.env)) (add (add x x) (add x x))) (low (tab_at c.prog t)) ≡ 4 * (length c.env.pre + (at_t + x))
    word_place = elem_at (high (tab_at c.prog t)) (floor_at c.env) (low (tab_at c.prog t)) x (length c.env.pre) at_t (tab_begins low_x) (omega (arith, c.env.in_words, low_x, c.tabs_in, tab_in c.prog.tables t hs e))

    entry_low : c.entry g < C
    entry_low = let (w, q, f) = c.env.coded (c.entry g) _ (c.laid.begins g T j).0 in nth_low c.env.code (c.entry g) w q

    abbrev W : ℕ
    W = (all - 4 * ((C + c.env.floor) - c.entry g)) % all

    word_is : nth c.env.code (at_t + x) ≡ some W
    word_is = let y : at_t + x ≡ (C - tab_size c.prog) + (B + x) = omega arith in ap (nth c.env.code) y ∙ c.tabs t x g hs e z

    entry_is : add W (floor_at c.env) ≡ address c.env (c.entry g)
    entry_is =
        let y : 4 * ((length c.env.pre + C) + c.env.floor) ≡ 4 * (length c.env.pre + (C + c.env.floor)) = omega arith in
        let q : 4 * (length c.env.pre + c.entry g) < all = omega (arith, c.env.in_words, entry_low) in
        below_floor (length c.env.pre) (C + c.env.floor) (c.entry g) (floor_at c.env) (omega (arith, entry_low)) (omega (arith, c.env.in_words, c.env.floor_in)) (ap (λ q. q % all) y) ∙ omega arith

    abbrev p0 : ℕ
    p0 = suc (suc (suc (suc (suc (suc (suc (suc (suc (suc (suc (suc (suc (suc (suc v.pc))))))))))))))

    to_loads : (r : ℕ → ℕ) × Steps c.env (regs_to v r p0) v × (r 6 ≡ address c.env (c.entry g))
    to_loads =
        let q = here_is c s v h (s_table d i t k n os) p in
        let q8 = q.1.1.1.1.1.1.1.1 in
        (_, d_lw q.0 tt m ▸ d_lui q.1.0 tt ▸ d_alui q.1.1.0 tt tt ▸ d_alu q.1.1.1.0 tt tt tt ▸ taken_bnz q.1.1.1.1.0 tt (one_of low_x) ▸ d_lui q8.0 tt ▸ d_addg q8.1.0 tt tt ▸ d_alu q8.1.1.0 tt tt tt ▸ d_alu q8.1.1.1.0 tt tt tt ▸ d_alu q8.1.1.1.1.0 tt tt tt ▸ d_lwc (at_t + x) q8.1.1.1.1.1.0 tt tt word_place word_is ▸ d_addg q8.1.1.1.1.1.1.0 tt tt ▸ here, entry_is)

    abbrev tail : List LI
    tail = l_callr 6 ∷ l_sw 10 (suc d) ∷ []

    tail_code : Seg c.env.row p0 (loads 10 k n ++ tail)
    tail_code = (here_is c s v h (s_table d i t k n os) p).1.1.1.1.1.1.1.1.1.1.1.1.1.1.1

    goes_in : d < slots h.f → T.params ≡ n → (xs : List ℕ) → args s.places k n ≡ some xs → Does c v (m_goes (enters T g d xs [] s))
    goes_in a b xs u =
        let (r, st, six) = to_loads in
        called c s v h d g k n a T j b xs u r p0 st (l_callr 6) tail_code (sym (past_both p0 (loads 10 k n) tail) ∙ then_is c s v h (s_table d i t k n os) p) (λ r1 o. d_callr (c.entry g) (seg_right c.env.row p0 (loads 10 k n) tail tail_code).0 tt (o 6 (omega arith) ∙ six))

pub sim_table : (c : Ctx) (s : MSt) (v : V) (h : Match c s v) (d i t k n : ℕ) (os : List Opnd) → nth h.f.code s.pc ≡ some (s_table d i t k n os) → Does c v (exec c.prog h.f (s_table d i t k n os) s)
sim_table c s v h d i t k n os p = by-opt (Does c v) (s.places i) _ tt (λ x q. go x (h.frame i x q).0 (firm c s v h (s_table d i t k n os) p))
  where
    go : (x : ℕ) → nth v.cells (v.sp + suc i) ≡ some x → (d < slots h.f) × (i < slots h.f) × (k + n ≤ slots h.f) × (os ≡ []) × ((hs : List ℕ) × (nth c.prog.tables t ≡ some hs) × (1 ≤ length hs) × ((l g : ℕ) → nth hs l ≡ some g → (T : MFn) × (fun_of c.prog g ≡ some T) × (T.params ≡ n))) → Does c v (opt (nth c.prog.tables t) m_stuck (λ hs. opt (nth hs x) (m_traps 1 s) (λ g. opt (nth c.prog.funs g) m_stuck (λ T. opt (args s.places k n) m_stuck (λ xs. opt (arrs_at s.act.arrs os) m_stuck (λ as₁. m_goes (enters T g d xs as₁ s)))))))
    go x m (a, b, y, z, (hs, e, w, f)) = rw e (way (nth hs x) refl)
      where
        way : (o : Option ℕ) → nth hs x ≡ o → Does c v (opt o (m_traps 1 s) (λ g. opt (nth c.prog.funs g) m_stuck (λ T. opt (args s.places k n) m_stuck (λ xs. opt (arrs_at s.act.arrs os) m_stuck (λ as₁. m_goes (enters T g d xs as₁ s))))))
        way none q = traps c s v h d i t k n os p hs e x m q
        way (some g) q =
            let (T, j, l) = f x g q in
            rw (fun_nth c.prog g T j) (by-opt (Does c v) (args s.places k n) _ tt (λ xs u. subst (λ l. Does c v (opt (arrs_at s.act.arrs l) m_stuck (λ as₁. m_goes (enters T g d xs as₁ s)))) (sym z) (goes_in c s v h d i t k n os p hs e x m g q T j a l xs u)))
