-- Each step of the middle language is a run of instructions.
use mathlib.Core.Path.{◌≡◌, refl, sym, ap, subst, ◌∙◌}
use mathlib.Core.Bool.{Bool, true, false}
use mathlib.Core.List.{List, [], ◌∷◌, ◌++◌}
use mathlib.Core.Option.{some}
use Prim.Native.Nat.{ℕ, suc, ◌+◌, ◌-◌, ◌*◌, ◌%◌, ◌≤◌, ◌<◌}
use native.Mathlib.Omega.{arith}
use native.Mathlib.Decide.{dec_lt}
use native.Mathlib.Nat.{add-zero}
use lib.Dec.{eqb}
use lib.ListN.{length, take}
use Rattle.language.specs.Meaning.{Cells}
use Rattle.language.specs.Syntax.{pick, nth, put}
use Rattle.language.specs.Words.{all, add}
use Rattle.steps.specs.Steps.{Step, s_num, s_copy, s_bin, s_un, s_flag, s_getw, s_setw, s_jump, s_jz, s_out, s_ret, Shape, MFn, MSt, Saved, upd, m_goes, m_traps, to, leaves, exec}
use Rattle.lower.specs.Lower.{Op1, u_flag, bin_of, no_bin, un_of, op_of, op1_of, ops, ops1, high, low, down_to, area, plens, live_of, data_size, slots, frame_size, lower}
use Rattle.lower.proofs.Lists.{length-put, nth_low, nth-put-other}
use Rattle.lower.proofs.TopArrays.{row_by, row_word, row-set}
use Rattle.lower.proofs.Instructions.{Env, V, LI, l_sw, here, ◌▸◌, ◌▹◌, d_lw, d_sw, d_num, d_lui, d_alui, d_j, d_ret, d_up, d_out, d_addg, d_lwr, d_swr, base, floor_at, address, sets}
use Rattle.lower.proofs.Realized.{wraps, stays}
use Rattle.lower.proofs.Runs.{taken_bnz, left_bnz, and_on}
use Rattle.lower.proofs.Operators.{num-is, bin-lt, un-lt, ops1-run, ops-run, ops-trap, seg_left, seg_right, past_both, binary-is, div0-is, single-is}
use Rattle.lower.proofs.InRow.{Seg, past, Firm}
use Rattle.lower.proofs.Match.{Ctx, Match, Globals, inside, over, Does, by-opt, stored_match, in_room, rets-same, frame_same, globals_put, Rets, last, more}
use Rattle.steps.proofs.Variables.{upd_same}

pub add_turn : (h f l : ℕ) → add (add h f) l ≡ add (add h l) f
add_turn h f l = omega arith

pub below_floor : (b fl i x : ℕ) → i < fl → 4 * (b + fl) ≤ all → x ≡ 4 * (b + fl) % all → add ((all - 4 * (fl - i)) % all) x ≡ 4 * (b + i)
below_floor b fl i x h k e = go (dec_lt (4 * (b + fl)) all)
  where
    o : (all - 4 * (fl - i)) % all ≡ all - 4 * (fl - i)
    o = omega arith

    go : Dec (4 * (b + fl) < all) → add ((all - 4 * (fl - i)) % all) x ≡ 4 * (b + i)
    go (yes d) = let u : x ≡ 4 * (b + fl) = stays x _ e d in rw o (omega arith)
    go (no d) = let u : x ≡ 0 = wraps x _ e (omega arith) in rw o (omega arith)

glob_at : (e : Env) (i : ℕ) → i < e.floor → add (add (high ((all - 4 * (e.floor - i)) % all)) (floor_at e)) (low ((all - 4 * (e.floor - i)) % all)) ≡ 4 * (base e + i)
glob_at e i h = add_turn _ (floor_at e) _ ∙ ap (λ n. add n (floor_at e)) (num-is ((all - 4 * (e.floor - i)) % all) (omega arith)) ∙ below_floor (base e) e.floor i (floor_at e) h (omega (arith, e.in_words, e.floor_in)) refl

-- a call that has no arrays of its own leaves none behind
left-arrays : (as₁ : List Cells) (os : List Shape) → os ≡ [] → take (length as₁ - length os) as₁ ≡ as₁
left-arrays as₁ os e = let z : length as₁ - length os ≡ length as₁ = omega (arith, ap length e) in ap (λ n. take n as₁) z ∙ take_all as₁
  where
    take_all : (xs : List Cells) → take (length xs) xs ≡ xs
    take_all [] = refl
    take_all (x ∷ xs) = ap (λ r. x ∷ r) (take_all xs)

module _ (c : Ctx) (s : MSt) (v : V) (h : Match c s v) where
  abbrev f : MFn
  f = h.f

  -- the instructions of the step at hand stand at the place where control is, and the step keeps to the function's places
  pub here_is : (st : Step) → nth f.code s.pc ≡ some st → Seg c.env.row v.pc (lower c.entry (c.at s.act.fn) c.prog f v.pc st)
  here_is st k = subst (λ x. Seg c.env.row x (lower c.entry (c.at s.act.fn) c.prog f x st)) (sym h.is_pc) (c.laid.has s.act.fn s.pc f st h.is_fn k)

  pub then_is : (st : Step) → nth f.code s.pc ≡ some st → past v.pc (lower c.entry (c.at s.act.fn) c.prog f v.pc st) ≡ c.at s.act.fn (suc s.pc)
  then_is st k = subst (λ x. past x (lower c.entry (c.at s.act.fn) c.prog f x st) ≡ c.at s.act.fn (suc s.pc)) (sym h.is_pc) (c.laid.goes_on s.act.fn s.pc f st h.is_fn k)

  pub firm : (st : Step) → nth f.code s.pc ≡ some st → Firm c.prog (slots f) st
  firm st k = (c.laid.neat s.act.fn f h.is_fn).firm s.pc st k

  no_own : f.own ≡ []
  no_own = (c.laid.neat s.act.fn f h.is_fn).no_own

  small : 4 * frame_size f < all
  small = omega (arith, (c.laid.neat s.act.fn f h.is_fn).fits)

  pub sim_num : (d n : ℕ) → nth f.code s.pc ≡ some (s_num d n) → Does c v (exec c.prog f (s_num d n) s)
  sim_num d n k =
      let (q, l) = firm (s_num d n) k in
      let g = here_is (s_num d n) k in (
        _,
        d_lui g.0 tt ▹ d_alui g.1.0 tt tt ▸ d_sw g.1.1.0 tt (in_room c s v h d q) ▸ here,
        inside (rw num-is (stored_match c s v h _ _ d n _ q l (then_is (s_num d n) k))),
      )

  pub sim_copy : (d a : ℕ) → nth f.code s.pc ≡ some (s_copy d a) → Does c v (exec c.prog f (s_copy d a) s)
  sim_copy d a k =
      by-opt (Does c v) (s.places a) _ tt (λ x p.
      let (q, u) = firm (s_copy d a) k in
      let g = here_is (s_copy d a) k in
      let (y, l) = h.frame a x p in (
        _,
        d_lw g.0 tt y ▹ d_sw g.1.0 tt (in_room c s v h d q) ▸ here,
        inside (stored_match c s v h _ _ d x _ q l (then_is (s_copy d a) k)),
      ))

  pub sim_out : (a : ℕ) → nth f.code s.pc ≡ some (s_out a) → Does c v (exec c.prog f (s_out a) s)
  sim_out a k =
      by-opt (Does c v) (s.places a) _ tt (λ x p.
      let g = here_is (s_out a) k in (
        _,
        d_lw g.0 tt (h.frame a x p).0 ▹ d_num g.1.0 tt (omega arith) ▸ d_out g.1.1.0 refl ▸ here,
        inside (record { f = f; is_fn = h.is_fn; is_pc = then_is (s_out a) k; frame = h.frame; rets = h.rets; words = h.words; words_in = h.words_in; shape = h.shape; ins_small = h.ins_small; above = h.above; is_ins = h.is_ins; is_outs = ap (λ o. o ++ (x ∷ [])) h.is_outs; asked = h.asked; long = h.long }),
      ))

  moved : (t p : ℕ) → p ≡ c.at s.act.fn t → (r : ℕ → ℕ) → Match c (to s t s.places) (record { r = r; sp = v.sp; pc = p; cells = v.cells; ins = v.ins; outs = v.outs })
  moved t p e r = record { f = f; is_fn = h.is_fn; is_pc = e; frame = h.frame; rets = h.rets; words = h.words; words_in = h.words_in; shape = h.shape; ins_small = h.ins_small; above = h.above; is_ins = h.is_ins; is_outs = h.is_outs; asked = h.asked; long = h.long }

  pub sim_jump : (t : ℕ) → nth f.code s.pc ≡ some (s_jump t) → Does c v (exec c.prog f (s_jump t) s)
  sim_jump t k = (_, d_j (here_is (s_jump t) k).0 ▹ here, inside (moved t _ refl _))

  pub sim_jz : (a t : ℕ) → nth f.code s.pc ≡ some (s_jz a t) → Does c v (exec c.prog f (s_jz a t) s)
  sim_jz a t k =
      by-opt (Does c v) (s.places a) _ tt (λ x p. way x (h.frame a x p).0 (eqb x 0) refl)
    where
      way : (x : ℕ) → nth v.cells (v.sp + suc a) ≡ some x → (b : Bool) → eqb x 0 ≡ b → Does c v (m_goes (to s (pick (eqb x 0) t (suc s.pc)) s.places))
      way x y true z = let g = here_is (s_jz a t) k in rw z (_, d_lw g.0 tt y ▹ left_bnz g.1.0 tt z ▸ d_j g.1.1.0 ▸ here, inside (moved t _ refl _))
      way x y false z = let g = here_is (s_jz a t) k in rw z (_, d_lw g.0 tt y ▹ taken_bnz g.1.0 tt z ▸ here, inside (moved (suc s.pc) _ (then_is (s_jz a t) k) _))

  pub sim_bin : (o d a b : ℕ) → nth f.code s.pc ≡ some (s_bin o d a b) → Does c v (exec c.prog f (s_bin o d a b) s)
  sim_bin o d a b k =
      by-opt (Does c v) (s.places a) _ tt (λ x p. by-opt (Does c v) (s.places b) _ tt (λ y q. rw (binary-is o x y, div0-is o y) (way x y (h.frame a x p) (h.frame b y q) (no_bin (op_of o) y) refl)))
    where
      way : (x y : ℕ) → (nth v.cells (v.sp + suc a) ≡ some x) × (x < all) → (nth v.cells (v.sp + suc b) ≡ some y) × (y < all) → (t : Bool) → no_bin (op_of o) y ≡ t → Does c v (pick (no_bin (op_of o) y) (m_traps 2 s) (m_goes (to s (suc s.pc) (upd s.places d (bin_of (op_of o) x y)))))
      way x y m n true z =
          let g = here_is (s_bin o d a b) k in
          let v2 : V = sets (sets v 5 x) 6 y in
          let (w, t, e) = ops-trap c.env (op_of o) v2 z (seg_left c.env.row v2.pc (ops v2.pc (op_of o)) (l_sw 7 (suc d) ∷ []) g.1.1) in
          rw z (w, d_lw g.0 tt m.0 ▸ d_lw g.1.0 tt n.0 ▸ t, record { calls = e.calls; number = e.number; with = e.with; is_ins = e.is_ins ∙ h.is_ins; is_outs = e.is_outs ∙ h.is_outs })
      way x y m n false z = rw z (
          let w : d < slots f = (firm (s_bin o d a b) k).0 in
          let g = here_is (s_bin o d a b) k in
          let v2 : V = sets (sets v 5 x) 6 y in
          let (r, t, e) = ops-run c.env (op_of o) v2 m.1 n.1 z (seg_left c.env.row v2.pc (ops v2.pc (op_of o)) (l_sw 7 (suc d) ∷ []) g.1.1) in
          let l = seg_right c.env.row v2.pc (ops v2.pc (op_of o)) (l_sw 7 (suc d) ∷ []) g.1.1 in (
            _,
            d_lw g.0 tt m.0 ▹ d_lw g.1.0 tt n.0 ▸ and_on t (d_sw l.0 tt (in_room c s v h d w) ▸ here),
            inside (rw e (stored_match c s v h _ _ d (bin_of (op_of o) x y) _ w (bin-lt (op_of o) x y m.1 n.1) (sym (past_both v2.pc (ops v2.pc (op_of o)) (l_sw 7 (suc d) ∷ [])) ∙ then_is (s_bin o d a b) k))),
          ))

  -- the frame is given up, and control is where the call has its return address
  pub sim_ret : (a : ℕ) → nth f.code s.pc ≡ some (s_ret a) → Does c v (exec c.prog f (s_ret a) s)
  sim_ret a k = by-opt (Does c v) (s.places a) _ tt (λ x p. way x (h.frame a x p) s.stack h.rets)
    where
      way : (x : ℕ) → (nth v.cells (v.sp + suc a) ≡ some x) × (x < all) → (vs : List Saved) → Rets c v.cells v.sp f s.held vs → Does c v (leaves f x vs s)
      way x m vs (last {v = t} r) =
          let g = here_is (s_ret a) k in
          let z : nth v.cells (v.sp + 0) ≡ some (address c.env c.exit) = rw add-zero r.ra in (
            _,
            d_lw g.0 tt m.0 ▹ d_lw g.1.0 tt z ▸ d_lui g.1.1.0 tt ▸ d_alui g.1.1.1.0 tt tt ▸ d_up (frame_size f) (v.sp + frame_size f) g.1.1.1.1.0 tt (num-is (4 * frame_size f) small) refl ▸ d_ret c.exit g.1.1.1.1.1.0 refl ▸ here,
            over (record { x = x; is_fn = r.is_fn; is_pc = r.is_pc; is_stack = refl; is_place = rw r.is_dest (upd_same t.places 0 x); at_exit = refl; with = refl; is_ins = h.is_ins; is_outs = h.is_outs }),
          )
      way x m vs (more {v = t} {vs = ts} r u) =
          let g = here_is (s_ret a) k in
          let z : nth v.cells (v.sp + 0) ≡ some (address c.env r.back) = rw add-zero r.ra in
          -- the caller as it was, with the call's words gone
          let s1 : MSt = record { act = t.act; pc = t.pc; places = t.places; stack = ts; words = s.words; arrays = take (length s.arrays - length f.own) s.arrays; ins = s.ins; outs = s.outs; held = s.held - f.cost; calls = s.calls } in
          let v1 : V = record { r = v.r; sp = v.sp + frame_size f; pc = c.at t.act.fn t.pc; cells = v.cells; ins = v.ins; outs = v.outs } in
          let h1 : Match c s1 v1 = record { f = r.from; is_fn = r.is_fn; is_pc = refl; frame = r.frame; rets = u; words = rw (left-arrays s.arrays f.own no_own) h.words; words_in = h.words_in; shape = rw (left-arrays s.arrays f.own no_own) h.shape; ins_small = h.ins_small; above = omega (arith, h.above); is_ins = h.is_ins; is_outs = h.is_outs; asked = r.asked; long = h.long } in (
            _,
            d_lw g.0 tt m.0 ▹ d_lw g.1.0 tt z ▸ d_lui g.1.1.0 tt ▸ d_alui g.1.1.1.0 tt tt ▸ d_up (frame_size f) (v.sp + frame_size f) g.1.1.1.1.0 tt (num-is (4 * frame_size f) small) refl ▸ d_ret r.back g.1.1.1.1.1.0 refl ▸ d_sw r.takes tt (in_room c s1 v1 h1 t.dest r.dest_in) ▸ here,
            inside (stored_match c s1 v1 h1 _ _ t.dest x t.pc r.dest_in m.1 r.goes_on),
          )

  -- an operator before one, and whether a place holds no 0
  way1 : (o : Op1) (d a : ℕ) (x : ℕ) → (nth v.cells (v.sp + suc a) ≡ some x) × (x < all) → d < slots f → (g : Seg c.env.row v.pc (LI.l_lw 5 (suc a) ∷ (ops1 o ++ (l_sw 7 (suc d) ∷ [])))) → past v.pc (LI.l_lw 5 (suc a) ∷ (ops1 o ++ (l_sw 7 (suc d) ∷ []))) ≡ c.at s.act.fn (suc s.pc) → Does c v (m_goes (to s (suc s.pc) (upd s.places d (un_of o x))))
  way1 o d a x m w g y =
      let v2 : V = sets v 5 x in
      let (r, t, e) = ops1-run c.env o v2 (seg_left c.env.row v2.pc (ops1 o) (l_sw 7 (suc d) ∷ []) g.1) in
      let l = seg_right c.env.row v2.pc (ops1 o) (l_sw 7 (suc d) ∷ []) g.1 in (
        _,
        d_lw g.0 tt m.0 ▹ and_on t (d_sw l.0 tt (in_room c s v h d w) ▸ here),
        inside (rw e (stored_match c s v h _ _ d (un_of o x) _ w (un-lt o x m.1) (sym (past_both v2.pc (ops1 o) (l_sw 7 (suc d) ∷ [])) ∙ y))),
      )

  pub sim_un : (o d a : ℕ) → nth f.code s.pc ≡ some (s_un o d a) → Does c v (exec c.prog f (s_un o d a) s)
  sim_un o d a k = by-opt (Does c v) (s.places a) _ tt (λ x p. rw (single-is o x) (way1 (op1_of o) d a x (h.frame a x p) (firm (s_un o d a) k).0 (here_is (s_un o d a) k) (then_is (s_un o d a) k)))

  pub sim_flag : (d a : ℕ) → nth f.code s.pc ≡ some (s_flag d a) → Does c v (exec c.prog f (s_flag d a) s)
  sim_flag d a k = by-opt (Does c v) (s.places a) _ tt (λ x p. way1 u_flag d a x (h.frame a x p) (firm (s_flag d a) k).0 (here_is (s_flag d a) k) (then_is (s_flag d a) k))

  -- where a word at the top stands
  pub word_at : (j : ℕ) → j < c.env.floor → add (add (high (down_to c.prog j)) (floor_at c.env)) (low (down_to c.prog j)) ≡ 4 * (base c.env + j)
  word_at j p = rw (← c.floor_is) (glob_at c.env j p)

  pub sim_getw : (d j : ℕ) → nth f.code s.pc ≡ some (s_getw d j) → Does c v (exec c.prog f (s_getw d j) s)
  sim_getw d j k =
      by-opt (Does c v) (nth s.words j) _ tt (λ x p.
      let w : d < slots f = firm (s_getw d j) k in
      let g = here_is (s_getw d j) k in
      let (y, l) = h.words (data_size c.prog + j) x (subst (λ n. nth (row_by (live_of c.prog) s.words s.arrays) (n + j) ≡ some x) (ap (λ l. area (plens (live_of c.prog) l)) h.shape) (row_word (live_of c.prog) s.words s.arrays j x p)) in (
        _,
        d_lui g.0 tt ▹ d_addg g.1.0 tt tt ▸ d_lwr (data_size c.prog + j) g.1.1.0 tt tt (word_at (data_size c.prog + j) (omega (arith, nth_low s.words j x p, h.words_in, c.floor_is))) y ▸ d_sw g.1.1.1.0 tt (in_room c s v h d w) ▸ here,
        inside (stored_match c s v h _ _ d x _ w l (then_is (s_getw d j) k)),
      ))

  pub sim_setw : (j a : ℕ) → nth f.code s.pc ≡ some (s_setw j a) → Does c v (exec c.prog f (s_setw j a) s)
  sim_setw j a k =
      by-opt (Does c v) (s.places a) _ tt (λ x p.
      let m = h.frame a x p in
      let g = here_is (s_setw j a) k in
      let l : data_size c.prog + j < c.env.floor = omega (arith, (firm (s_setw j a) k).1, c.floor_is) in
      let q : data_size c.prog + j < c.env.total = omega (arith, c.env.floor_in) in (
        _,
        d_lui g.0 tt ▹ d_addg g.1.0 tt tt ▸ d_lw g.1.1.0 tt m.0 ▸ d_swr (data_size c.prog + j) g.1.1.1.0 tt tt (word_at (data_size c.prog + j) l) q ▸ here,
        inside (record {
          f = f;
          is_fn = h.is_fn;
          is_pc = then_is (s_setw j a) k;
          frame = frame_same v.cells (put v.cells (data_size c.prog + j) x) v.sp s.places (λ i b. nth-put-other v.cells (data_size c.prog + j) i x (omega (arith, h.above))) h.frame;
          rets = rets-same c v.cells (put v.cells (data_size c.prog + j) x) (λ i b. nth-put-other v.cells (data_size c.prog + j) i x (omega (arith, h.above))) h.rets;
          words = subst (Globals (put v.cells (data_size c.prog + j) x)) (ap (λ l. put (row_by (live_of c.prog) s.words s.arrays) (area (plens (live_of c.prog) l) + j) x) (sym h.shape) ∙ row-set (live_of c.prog) s.words s.arrays j x (omega (arith, (firm (s_setw j a) k).1, h.words_in))) (globals_put v.cells (row_by (live_of c.prog) s.words s.arrays) (data_size c.prog + j) x (omega (arith, h.long)) m.1 h.words);
          words_in = length-put s.words j x ∙ h.words_in;
          shape = h.shape;
          ins_small = h.ins_small;
          above = h.above;
          is_ins = h.is_ins;
          is_outs = h.is_outs;
          asked = h.asked;
          long = length-put v.cells (data_size c.prog + j) x ∙ h.long;
        }),
      ))
