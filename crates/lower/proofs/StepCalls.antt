-- A call, to the first step of its function, or to the end for want of room.
use mathlib.Core.Path.{◌≡◌, refl, sym, ap, subst, subst₂, ◌∙◌}
use mathlib.Core.Bool.{Bool, true, false}
use mathlib.Core.Logic.{◌⊎◌, inl, inr}
use mathlib.Core.List.{List, [], ◌∷◌, ◌++◌, append-nil}
use mathlib.Core.Option.{some}
use Prim.Native.Nat.{ℕ, suc, ◌+◌, ◌-◌, ◌*◌, ◌≤◌, ◌<◌}
use native.Mathlib.Omega.{arith}
use lib.ListN.{length, replicate}
use lib.Dec.{ltb}
use borrow.Author.Tests.{ltb-true, ltb-false}
use Rattle.language.specs.Syntax.{opt, nth}
use Rattle.language.specs.Words.{all}
use Rattle.steps.specs.Steps.{Opnd, Shape, s_call, fresh, arrs_at, MFn, MSt, m_goes, m_stuck, exec, args, entry, enters}
use Rattle.lower.specs.Lower.{live_of, fun_of, slots, frame_size, loads, prologue}
use Rattle.lower.proofs.Lists.{nth_low}
use Rattle.language.specs.Meaning.{Cells}
use Rattle.lower.proofs.TopArrays.{row_by}
use Rattle.lower.proofs.Instructions.{V, LI, l_sw, l_jal, One, Steps, here, ◌▹◌, d_jal, address, links}
use Rattle.lower.proofs.Runs.{and_on, and_first}
use Rattle.lower.proofs.Operators.{regs_to, seg_left, seg_right, past_both}
use Rattle.lower.proofs.InRow.{Neat, Seg, past, fun_nth}
use Rattle.lower.proofs.Match.{globals_in, among_last, Ctx, Frame, Match, inside, full, Does, by-opt, rets_in, rets-same, frame_same, globals_same, Rets, more}
use Rattle.lower.proofs.Arguments.{wr-other, args-length, args-small, loads_run, nth-split, nth-same}
use Rattle.lower.proofs.Prologue.{full_run, Enters, enter_run}
use Rattle.lower.proofs.StepWords.{here_is, then_is, firm}

-- a call with no arrays of its own brings none
pub more-arrays : (as₁ : List Cells) (os : List Shape) → os ≡ [] → as₁ ++ fresh os ≡ as₁
more-arrays as₁ os e = ap (λ l. as₁ ++ fresh l) e ∙ append-nil as₁

-- a new frame
pub frame_fresh : (cs : List ℕ) (b : ℕ) (t : MFn) (xs : List ℕ) → length xs ≡ t.params → ((j x : ℕ) → nth xs j ≡ some x → (nth cs (b + suc j) ≡ some x) × (x < all)) → ((j : ℕ) → t.params ≤ j → j < t.params + t.vars → nth cs (b + suc j) ≡ some 0) → Frame cs b (entry t xs)
frame_fresh cs b t xs l a z i x h = go (nth-split xs (replicate t.vars 0) i x h)
  where
    go : (nth xs i ≡ some x) ⊎ ((j : ℕ) × (i ≡ length xs + j) × (nth (replicate t.vars 0) j ≡ some x)) → (nth cs (b + suc i) ≡ some x) × (x < all)
    go (inl p) = a i x p
    go (inr (j, e, p)) = let (q, w) = nth-same t.vars j 0 x p in let y : i ≡ t.params + j = e ∙ ap (λ n. n + j) l in (z i (omega arith) (omega arith) ∙ ap some w, omega arith)

-- registers r0 and place p0: where the arguments' loads begin, at the end of some instructions; then comes a jump to the function, with registers below 10 as they were
module _ (c : Ctx) (s : MSt) (v : V) (h : Match c s v) (d g k n : ℕ) (d_in : d < slots h.f) (t : MFn) (j : fun_of c.prog g ≡ some t) (takes : t.params ≡ n) (xs : List ℕ) (u : args s.places k n ≡ some xs) (r0 : ℕ → ℕ) (p0 : ℕ) (to-p0 : Steps c.env (regs_to v r0 p0) v) (jump : LI) (code_is : Seg c.env.row p0 (loads 10 k n ++ (jump ∷ l_sw 10 (suc d) ∷ []))) (back_is : suc (suc (past p0 (loads 10 k n))) ≡ c.at s.act.fn (suc s.pc)) (jumps_in : (r : ℕ → ℕ) → ((i : ℕ) → i < 10 → r i ≡ r0 i) → One c.env (regs_to v r (past p0 (loads 10 k n))) (links (regs_to v r (past p0 (loads 10 k n))) (address c.env (suc (past p0 (loads 10 k n)))) (c.entry g))) where
  abbrev tail : List LI
  tail = jump ∷ l_sw 10 (suc d) ∷ []

  abbrev p1 : ℕ
  p1 = past p0 (loads 10 k n)

  tail_is : Seg c.env.row p1 tail
  tail_is = seg_right c.env.row p0 (loads 10 k n) tail code_is

  neat : Neat c.prog t
  neat = c.laid.neat g t j

  small : 4 * frame_size t < all
  small = omega (arith, neat.fits)

  -- control is at the function's entry
  abbrev v2 : (ℕ → ℕ) → V
  v2 r = links (regs_to v r p1) (address c.env (suc p1)) (c.entry g)

  sp_low : v.sp + frame_size h.f ≤ c.env.total
  sp_low = rets_in c v.cells h.rets

  many : length xs ≡ t.params
  many = args-length s.places k n xs u ∙ sym takes

  entered_match : (r : ℕ → ℕ) → ((j x : ℕ) → nth xs j ≡ some x → r (10 + j) ≡ x) → frame_size t ≤ v.sp - c.env.floor → (w : Enters c.env t (v2 r)) → Match c (enters t g d xs [] s) (record { r = w.r; sp = v.sp - frame_size t; pc = past (c.entry g) (prologue (c.entry g) t); cells = w.cs; ins = v.ins; outs = v.outs })
  entered_match r a room w =
      let b : (v.sp - frame_size t) + frame_size t ≡ v.sp = omega arith in
      let e : (s.held + t.cost) - t.cost ≡ s.held = omega arith in
      record {
        f = t;
        is_fn = j;
        is_pc = c.laid.first g t j;
        frame = frame_fresh w.cs (v.sp - frame_size t) t xs many (λ l x q. (w.args l (omega (arith, nth_low xs l x q, many)) ∙ ap some (wr-other r 1 _ (10 + l) (omega arith) ∙ a l x q), args-small v.cells v.sp s.places h.frame k n xs u l x q)) w.vars;
        rets =
            more (record {
              from = h.f;
              is_fn = h.is_fn;
              back = suc p1;
              ra = w.ra;
              takes = tail_is.1.0;
              goes_on = back_is;
              frame = subst (λ x. Frame w.cs x s.places) (sym b) (frame_same v.cells w.cs v.sp s.places (λ l q. w.high l (omega arith)) h.frame);
              dest_in = d_in;
              asked = omega (arith, h.asked);
            }) (subst₂ (λ x y. Rets c w.cs x h.f y s.stack) (sym b) (sym e) (rets-same c v.cells w.cs (λ l q. w.high l (omega arith)) h.rets));
        words = rw (more-arrays s.arrays t.own neat.no_own) (globals_same v.cells w.cs (row_by (live_of c.prog) s.words s.arrays) c.env.floor (globals_in c s v h) (λ l q. w.low l (omega arith)) h.words);
        words_in = h.words_in;
        shape = rw (more-arrays s.arrays t.own neat.no_own) h.shape;
        ins_small = h.ins_small;
        above = omega (arith, h.above);
        is_ins = h.is_ins;
        is_outs = h.is_outs;
        asked = omega (arith, h.asked, neat.costs);
        long = w.long;
      }

  goes_in : (r : ℕ → ℕ) → Steps c.env (regs_to v r p1) v → ((i : ℕ) → i < 10 → r i ≡ r0 i) → ((j x : ℕ) → nth xs j ≡ some x → r (10 + j) ≡ x) → frame_size t ≤ v.sp - c.env.floor → Enters c.env t (v2 r) → Does c v (m_goes (enters t g d xs [] s))
  goes_in r st o a room w = (_, and_first st (jumps_in r o ▹ w.steps), inside (entered_match r a room w))

  pub called : Does c v (m_goes (enters t g d xs [] s))
  called =
      let (r, st, a, o) = loads_run c.env s.places n 10 k (regs_to v r0 p0) xs h.frame (omega arith) (omega (arith, neat.few)) u (seg_left c.env.row p0 (loads 10 k n) tail code_is) in
      way r (and_on to-p0 st) o a (ltb (4 * (v.sp - c.env.floor)) (4 * frame_size t)) refl
    where
      way : (r : ℕ → ℕ) → Steps c.env (regs_to v r p1) v → ((i : ℕ) → i < 10 → r i ≡ r0 i) → ((j x : ℕ) → nth xs j ≡ some x → r (10 + j) ≡ x) → (b : Bool) → ltb (4 * (v.sp - c.env.floor)) (4 * frame_size t) ≡ b → Does c v (m_goes (enters t g d xs [] s))
      way r st o a true z =
          let (w, q, y) = full_run c.env t (v2 r) small h.above (omega (arith, sp_low)) z (c.laid.begins g t j) in
          (w, and_first st (jumps_in r o ▹ q), full (record { calls = y.calls; number = y.number; is_ins = y.is_ins ∙ h.is_ins; is_outs = y.is_outs ∙ h.is_outs; short = omega (arith, ltb-true (4 * (v.sp - c.env.floor)) (4 * frame_size t) z, h.asked, h.above, neat.costs); marked = among_last s.calls _ }))
      way r st o a false z =
          let room : frame_size t ≤ v.sp - c.env.floor = omega (arith, ltb-false (4 * (v.sp - c.env.floor)) (4 * frame_size t) z) in
          goes_in r st o a room (enter_run c.env t (v2 r) small neat.few neat.some_places h.above (omega (arith, sp_low)) h.long room (c.laid.begins g t j) z)

pub sim_call : (c : Ctx) (s : MSt) (v : V) (h : Match c s v) (d g k n : ℕ) (os : List Opnd) → nth h.f.code s.pc ≡ some (s_call d g k n os) → Does c v (exec c.prog h.f (s_call d g k n os) s)
sim_call c s v h d g k n os p = go (firm c s v h (s_call d g k n os) p)
  where
    go : (d < slots h.f) × (k + n ≤ slots h.f) × (os ≡ []) × ((t : MFn) × (fun_of c.prog g ≡ some t) × (t.params ≡ n)) → Does c v (exec c.prog h.f (s_call d g k n os) s)
    go (a, b, z, (t, j, e)) = rw (fun_nth c.prog g t j) (by-opt (Does c v) (args s.places k n) _ tt (λ xs u. subst (λ l. Does c v (opt (arrs_at s.act.arrs l) m_stuck (λ as₁. m_goes (enters t g d xs as₁ s)))) (sym z) (called c s v h d g k n a t j e xs u v.r v.pc here (l_jal (c.entry g)) (here_is c s v h (s_call d g k n os) p) (sym (past_both v.pc (loads 10 k n) _) ∙ then_is c s v h (s_call d g k n os) p) (λ r o. d_jal (seg_right c.env.row v.pc (loads 10 k n) (l_jal (c.entry g) ∷ l_sw 10 (suc d) ∷ []) (here_is c s v h (s_call d g k n os) p)).0))))
