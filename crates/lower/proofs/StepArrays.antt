-- Reading what there is to read, and arrays at the top.
use mathlib.Core.Path.{◌≡◌, refl, sym, ap, subst, ◌∙◌}
use mathlib.Core.Bool.{Bool, true, false}
use mathlib.Core.List.{List, [], ◌∷◌}
use mathlib.Core.Option.{Option, some, none}
use Prim.Native.Nat.{ℕ, suc, ◌+◌, ◌*◌, ◌%◌, ◌≤◌, ◌<◌}
use native.Mathlib.Omega.{arith}
use lib.ListN.{length}
use lib.Dec.{eqb, ltb}
use borrow.Author.Tests.{lt-ltb, le-ltb}
use native.Mathlib.Decide.{dec_lt}
use Rattle.language.specs.Syntax.{pick, opt, nth, put}
use Rattle.language.specs.Words.{all, bit, add, and_w}
use Rattle.language.specs.Meaning.{Cells}
use Rattle.steps.specs.Steps.{Opnd, o_top, o_own, s_in, s_idx, s_put, s_len, MFn, MSt, upd, m_goes, m_traps, to, reads_in, exec}
use Rattle.lower.specs.Lower.{live_of, place, high, low, lens, size_of, array_at, slots}
use Rattle.lower.proofs.Lists.{length-put, nth_in, nth_low, nth-put-other, none-some}
use Rattle.lower.proofs.Instructions.{V, here, ◌▸◌, ◌▹◌, d_lw, d_sw, d_num, d_lui, d_alui, d_alu, d_in, d_none, d_addg, d_lwr, d_swr, base, floor_at}
use Rattle.lower.proofs.Runs.{taken_bnz, left_bnz}
use Rattle.lower.proofs.Operators.{num-is}
use Rattle.lower.proofs.TopArrays.{row_by, row-long, row_at, row_in, row_put, size_is, changed, lens-put, byte_is}
use Rattle.lower.proofs.Match.{globals_in, Ctx, Match, Globals, inside, Does, by-opt, stored_match, in_room, rets-same, frame_same, globals_put}
use Rattle.lower.proofs.StepWords.{here_is, then_is, firm, word_at}

-- an element's address, its number counted in words
pub elem_at : (h f l i b j : ℕ) → add (add h f) l ≡ 4 * (b + j) → 4 * (b + (j + i)) < all → add (add (add h f) (add (add i i) (add i i))) l ≡ 4 * (b + (j + i))
elem_at h f l i b j e k = ap (λ y. add (add (add h f) y) l) quad ∙ turn (add h f) (4 * i) l ∙ ap (λ y. add y (4 * i)) e ∙ last
  where
    quad : add (add i i) (add i i) ≡ 4 * i
    quad = omega arith

    turn : (x y z : ℕ) → add (add x y) z ≡ add (add x z) y
    turn x y z = omega arith

    last : add (4 * (b + j)) (4 * i) ≡ 4 * (b + (j + i))
    last = omega arith

module _ (c : Ctx) (s : MSt) (v : V) (h : Match c s v) where
  abbrev f : MFn
  f = h.f

  pub sim_in : (d : ℕ) → nth f.code s.pc ≡ some (s_in d) → Does c v (exec c.prog f (s_in d) s)
  sim_in d k = way s.ins refl
    where
      way : (l : List ℕ) → s.ins ≡ l → Does c v (reads_in d l s)
      way [] z =
          let g = here_is c s v h (s_in d) k in (
            _,
            d_num g.0 tt (omega arith) ▸ d_none g.1.0 refl (h.is_ins ∙ z) ▸ left_bnz g.1.1.0 tt refl ▸ d_num g.1.1.1.0 tt (omega arith) ▸ d_num g.1.1.1.1.0 tt (omega arith) ▸ here,
            record { calls = g.1.1.1.1.1.0; number = refl; with = refl; is_ins = sym z; is_outs = h.is_outs },
          )
      way (x ∷ xs) z =
          let q : d < slots f = firm c s v h (s_in d) k in
          let g = here_is c s v h (s_in d) k in
          let s1 : MSt = record { act = s.act; pc = s.pc; places = s.places; stack = s.stack; words = s.words; arrays = s.arrays; ins = xs; outs = s.outs; held = s.held; calls = s.calls } in
          let v1 : V = record { r = v.r; sp = v.sp; pc = v.pc; cells = v.cells; ins = xs; outs = v.outs } in
          let few : (j y : ℕ) → nth (x ∷ xs) j ≡ some y → y < all = subst (λ l. (j y : ℕ) → nth l j ≡ some y → y < all) z h.ins_small in
          let h1 : Match c s1 v1 = record { f = f; is_fn = h.is_fn; is_pc = h.is_pc; frame = h.frame; rets = h.rets; words = h.words; words_in = h.words_in; shape = h.shape; ins_small = λ j y e. few (suc j) y e; above = h.above; is_ins = refl; is_outs = h.is_outs; asked = h.asked; long = h.long } in (
            _,
            d_num g.0 tt (omega arith) ▹ d_in g.1.0 refl (h.is_ins ∙ z) ▸ taken_bnz g.1.1.0 tt refl ▸ d_sw g.1.1.1.1.1.1.0 tt (in_room c s v h d q) ▸ here,
            inside (stored_match c s1 v1 h1 _ _ d x _ q (few 0 x refl) (then_is c s v h (s_in d) k)),
          )

  -- an array at the top, and its words
  small_size : (a : ℕ) (cs : Cells) → nth s.arrays a ≡ some cs → (size_of (lens c.prog.arrays) a ≡ length cs.cells)
  small_size a cs e = ap (λ l. size_of l a) (sym h.shape) ∙ size_is s.arrays a cs e

  abbrev where_at : ℕ → ℕ
  where_at a = place (live_of c.prog) c.prog.words (lens c.prog.arrays) a

  -- the same by the state at hand
  where_is : (a : ℕ) → place (live_of c.prog) (length s.words) (lens s.arrays) a ≡ where_at a
  where_is a = ap (λ w. place (live_of c.prog) w (lens s.arrays) a) h.words_in ∙ ap (λ l. place (live_of c.prog) c.prog.words l a) h.shape

  elem_low : (a i : ℕ) (cs : Cells) → nth s.arrays a ≡ some cs → i < length cs.cells → where_at a + i < c.env.floor
  elem_low a i cs e l = omega (arith, row_in (live_of c.prog) s.words s.arrays a i cs e l, where_is a, row-long (live_of c.prog) s.words s.arrays, globals_in c s v h)

  elem_is : (a i x : ℕ) (cs : Cells) → nth s.arrays a ≡ some cs → nth cs.cells i ≡ some x → (nth v.cells (where_at a + i) ≡ some x) × (x < all)
  elem_is a i x cs e p =
      subst (λ j. (nth v.cells (j + i) ≡ some x) × (x < all)) (where_is a) (h.words _ x (row_at (live_of c.prog) s.words s.arrays a i cs e x p))

  elem_place : (a i : ℕ) → where_at a + i < c.env.floor → add (add (add (high (array_at c.prog a)) (floor_at c.env)) (add (add i i) (add i i))) (low (array_at c.prog a)) ≡ 4 * (base c.env + (where_at a + i))
  elem_place a i l = elem_at (high (array_at c.prog a)) (floor_at c.env) (low (array_at c.prog a)) i (base c.env) (where_at a) (word_at c s v h (where_at a) (omega arith)) (omega (arith, c.env.in_words, c.env.floor_in))

  pub sim_len : (d : ℕ) (o : Opnd) → nth f.code s.pc ≡ some (s_len d o) → Does c v (exec c.prog f (s_len d o) s)
  sim_len d (o_own j) k = absurd (firm c s v h (s_len d (o_own j)) k).1
  sim_len d (o_top a) k = by-opt (Does c v) (nth s.arrays a) _ tt (λ cs e.
      let (q, (u, l)) = firm c s v h (s_len d (o_top a)) k in
      let g = here_is c s v h (s_len d (o_top a)) k in
      let z : size_of (lens c.prog.arrays) a ≡ length cs.cells = small_size a cs e in (
        _,
        d_lui g.0 tt ▹ d_alui g.1.0 tt tt ▸ d_sw g.1.1.0 tt (in_room c s v h d q) ▸ here,
        inside (rw (num-is (size_of (lens c.prog.arrays) a) l) (rw (← z) (stored_match c s v h _ _ d (size_of (lens c.prog.arrays) a) _ q l (then_is c s v h (s_len d (o_top a)) k)))),
      ))

  -- the place is looked at: register 7 says whether it is one
  abbrev S : ℕ → ℕ
  S a = size_of (lens c.prog.arrays) a

  out_of : (n a : ℕ) (cs : Cells) → nth s.arrays a ≡ some cs → S a < all → nth cs.cells n ≡ none → eqb (bit (ltb n (add (high (S a)) (low (S a))))) 0 ≡ true
  out_of n a cs e l z = ap (λ t. eqb (bit (ltb n t)) 0) (num-is (S a) l) ∙ ap (λ b. eqb (bit b) 0) (le-ltb n (S a) (go (dec_lt n (length cs.cells))))
    where
      go : Dec (n < length cs.cells) → S a ≤ n
      go (yes d) = let (x, y) = nth_in cs.cells n d in none-some x (sym z ∙ y)
      go (no d) = omega (arith, small_size a cs e)

  one_of : (n a : ℕ) (cs : Cells) → nth s.arrays a ≡ some cs → S a < all → n < length cs.cells → eqb (bit (ltb n (add (high (S a)) (low (S a))))) 0 ≡ false
  one_of n a cs e l z = ap (λ t. eqb (bit (ltb n t)) 0) (num-is (S a) l) ∙ ap (λ b. eqb (bit b) 0) (lt-ltb n (S a) (omega (arith, small_size a cs e)))

  pub sim_idx : (d : ℕ) (o : Opnd) (i : ℕ) → nth f.code s.pc ≡ some (s_idx d o i) → Does c v (exec c.prog f (s_idx d o i) s)
  sim_idx d (o_own j) i k = absurd (firm c s v h (s_idx d (o_own j) i) k).2
  sim_idx d (o_top a) i k = by-opt (Does c v) (s.places i) _ tt (λ n p. by-opt (Does c v) (nth s.arrays a) _ tt (λ cs e. way n (h.frame i n p).0 cs e (nth cs.cells n) refl))
    where
      way : (n : ℕ) → nth v.cells (v.sp + suc i) ≡ some n → (cs : Cells) → nth s.arrays a ≡ some cs → (o : Option ℕ) → nth cs.cells n ≡ o → Does c v (opt o (m_traps 1 s) (λ x. m_goes (to s (suc s.pc) (upd s.places d x))))
      way n m cs e none z =
          let (q, r, (u, l)) = firm c s v h (s_idx d (o_top a) i) k in
          let g = here_is c s v h (s_idx d (o_top a) i) k in (
            _,
            d_lw g.0 tt m ▸ d_lui g.1.0 tt ▸ d_alui g.1.1.0 tt tt ▸ d_alu g.1.1.1.0 tt tt tt ▸ left_bnz g.1.1.1.1.0 tt (out_of n a cs e l z) ▸ d_num g.1.1.1.1.1.0 tt (omega arith) ▸ d_num g.1.1.1.1.1.1.0 tt (omega arith) ▸ here,
            record { calls = g.1.1.1.1.1.1.1.0; number = refl; with = refl; is_ins = h.is_ins; is_outs = h.is_outs },
          )
      way n m cs e (some x) z =
          let (q, r, (u, l)) = firm c s v h (s_idx d (o_top a) i) k in
          let g = here_is c s v h (s_idx d (o_top a) i) k in
          let low_n : n < length cs.cells = nth_low cs.cells n x z in
          let (y, w) = elem_is a n x cs e z in (
            _,
            d_lw g.0 tt m ▹ d_lui g.1.0 tt ▸ d_alui g.1.1.0 tt tt ▸ d_alu g.1.1.1.0 tt tt tt ▸ taken_bnz g.1.1.1.1.0 tt (one_of n a cs e l low_n) ▸ d_lui g.1.1.1.1.1.1.1.1.0 tt ▸ d_addg g.1.1.1.1.1.1.1.1.1.0 tt tt ▸ d_alu g.1.1.1.1.1.1.1.1.1.1.0 tt tt tt ▸ d_alu g.1.1.1.1.1.1.1.1.1.1.1.0 tt tt tt ▸ d_alu g.1.1.1.1.1.1.1.1.1.1.1.1.0 tt tt tt ▸ d_lwr (where_at a + n) g.1.1.1.1.1.1.1.1.1.1.1.1.1.0 tt tt (elem_place a n (elem_low a n cs e low_n)) y ▸ d_sw g.1.1.1.1.1.1.1.1.1.1.1.1.1.1.0 tt (in_room c s v h d q) ▸ here,
            inside (stored_match c s v h _ _ d x _ q w (then_is c s v h (s_idx d (o_top a) i) k)),
          )

  -- an element is written
  put_match : (a n z : ℕ) (cs : Cells) → nth s.arrays a ≡ some cs → n < length cs.cells → z < all → (r : ℕ → ℕ) (p : ℕ) → p ≡ c.at s.act.fn (suc s.pc) → Match c (record { act = s.act; pc = suc s.pc; places = s.places; stack = s.stack; words = s.words; arrays = put s.arrays a (changed cs n z); ins = s.ins; outs = s.outs; held = s.held; calls = s.calls }) (record { r = r; sp = v.sp; pc = p; cells = put v.cells (where_at a + n) z; ins = v.ins; outs = v.outs })
  put_match a n z cs e l zl r p q =
      let jl : where_at a + n < c.env.floor = elem_low a n cs e l in
      record {
        f = f;
        is_fn = h.is_fn;
        is_pc = q;
        frame = frame_same v.cells (put v.cells (where_at a + n) z) v.sp s.places (λ i b. nth-put-other v.cells (where_at a + n) i z (omega (arith, h.above))) h.frame;
        rets = rets-same c v.cells (put v.cells (where_at a + n) z) (λ i b. nth-put-other v.cells (where_at a + n) i z (omega (arith, h.above))) h.rets;
        words = subst (Globals (put v.cells (where_at a + n) z)) (ap (λ i. put (row_by (live_of c.prog) s.words s.arrays) (i + n) z) (sym (where_is a)) ∙ row_put (live_of c.prog) s.words s.arrays a n cs e z l) (globals_put v.cells (row_by (live_of c.prog) s.words s.arrays) (where_at a + n) z (omega (arith, h.long, c.env.floor_in)) zl h.words);
        words_in = h.words_in;
        shape = lens-put s.arrays a n z cs e ∙ h.shape;
        ins_small = h.ins_small;
        above = h.above;
        is_ins = h.is_ins;
        is_outs = h.is_outs;
        asked = h.asked;
        long = length-put v.cells (where_at a + n) z ∙ h.long;
      }

  put_match_as : (a n z b : ℕ) → b ≡ z → (cs : Cells) → nth s.arrays a ≡ some cs → n < length cs.cells → z < all → (r : ℕ → ℕ) (p : ℕ) → p ≡ c.at s.act.fn (suc s.pc) → Match c (record { act = s.act; pc = suc s.pc; places = s.places; stack = s.stack; words = s.words; arrays = put s.arrays a (changed cs n z); ins = s.ins; outs = s.outs; held = s.held; calls = s.calls }) (record { r = r; sp = v.sp; pc = p; cells = put v.cells (where_at a + n) b; ins = v.ins; outs = v.outs })
  put_match_as a n z b i cs e l zl r p q = subst (λ x. Match c (record { act = s.act; pc = suc s.pc; places = s.places; stack = s.stack; words = s.words; arrays = put s.arrays a (changed cs n z); ins = s.ins; outs = s.outs; held = s.held; calls = s.calls }) (record { r = r; sp = v.sp; pc = p; cells = put v.cells (where_at a + n) x; ins = v.ins; outs = v.outs })) (sym i) (put_match a n z cs e l zl r p q)

  pub sim_put : (w : Bool) (o : Opnd) (i b : ℕ) → nth f.code s.pc ≡ some (s_put w o i b) → Does c v (exec c.prog f (s_put w o i b) s)
  sim_put w (o_own j) i b k = absurd (firm c s v h (s_put w (o_own j) i b) k).2
  sim_put w (o_top a) i b k = by-opt (Does c v) (s.places i) _ tt (λ n p. by-opt (Does c v) (s.places b) _ tt (λ y t. by-opt (Does c v) (nth s.arrays a) _ tt (λ cs e. way w k n (h.frame i n p).0 y (h.frame b y t) cs e (nth cs.cells n) refl)))
    where
      way : (w : Bool) → nth f.code s.pc ≡ some (s_put w (o_top a) i b) → (n : ℕ) → nth v.cells (v.sp + suc i) ≡ some n → (y : ℕ) → (nth v.cells (v.sp + suc b) ≡ some y) × (y < all) → (cs : Cells) → nth s.arrays a ≡ some cs → (o : Option ℕ) → nth cs.cells n ≡ o → Does c v (opt o (m_traps 1 s) (λ old. m_goes (record { act = s.act; pc = suc s.pc; places = s.places; stack = s.stack; words = s.words; arrays = put s.arrays a (changed cs n (pick w y (y % 256))); ins = s.ins; outs = s.outs; held = s.held; calls = s.calls })))
      way w k n m y t cs e none z =
          let (q, r, (u, l)) = firm c s v h (s_put w (o_top a) i b) k in
          let g = here_is c s v h (s_put w (o_top a) i b) k in (
            _,
            d_lw g.0 tt m ▸ d_lui g.1.0 tt ▸ d_alui g.1.1.0 tt tt ▸ d_alu g.1.1.1.0 tt tt tt ▸ left_bnz g.1.1.1.1.0 tt (out_of n a cs e l z) ▸ d_num g.1.1.1.1.1.0 tt (omega arith) ▸ d_num g.1.1.1.1.1.1.0 tt (omega arith) ▸ here,
            record { calls = g.1.1.1.1.1.1.1.0; number = refl; with = refl; is_ins = h.is_ins; is_outs = h.is_outs },
          )
      way true k n m y t cs e (some x) z =
          let (q, r, (u, l)) = firm c s v h (s_put true (o_top a) i b) k in
          let g = here_is c s v h (s_put true (o_top a) i b) k in
          let low_n : n < length cs.cells = nth_low cs.cells n x z in
          let in_all : where_at a + n < c.env.total = omega (arith, elem_low a n cs e low_n, c.env.floor_in) in (
            _,
            d_lw g.0 tt m ▹ d_lui g.1.0 tt ▸ d_alui g.1.1.0 tt tt ▸ d_alu g.1.1.1.0 tt tt tt ▸ taken_bnz g.1.1.1.1.0 tt (one_of n a cs e l low_n) ▸ d_lui g.1.1.1.1.1.1.1.1.0 tt ▸ d_addg g.1.1.1.1.1.1.1.1.1.0 tt tt ▸ d_alu g.1.1.1.1.1.1.1.1.1.1.0 tt tt tt ▸ d_alu g.1.1.1.1.1.1.1.1.1.1.1.0 tt tt tt ▸ d_alu g.1.1.1.1.1.1.1.1.1.1.1.1.0 tt tt tt ▸ d_lw g.1.1.1.1.1.1.1.1.1.1.1.1.1.0 tt t.0 ▸ d_swr (where_at a + n) g.1.1.1.1.1.1.1.1.1.1.1.1.1.1.0 tt tt (elem_place a n (elem_low a n cs e low_n)) in_all ▸ here,
            inside (put_match a n y cs e low_n t.1 _ _ (then_is c s v h (s_put true (o_top a) i b) k)),
          )
      way false k n m y t cs e (some x) z =
          let (q, r, (u, l)) = firm c s v h (s_put false (o_top a) i b) k in
          let g = here_is c s v h (s_put false (o_top a) i b) k in
          let low_n : n < length cs.cells = nth_low cs.cells n x z in
          let in_all : where_at a + n < c.env.total = omega (arith, elem_low a n cs e low_n, c.env.floor_in) in (
            _,
            d_lw g.0 tt m ▹ d_lui g.1.0 tt ▸ d_alui g.1.1.0 tt tt ▸ d_alu g.1.1.1.0 tt tt tt ▸ taken_bnz g.1.1.1.1.0 tt (one_of n a cs e l low_n) ▸ d_lui g.1.1.1.1.1.1.1.1.0 tt ▸ d_addg g.1.1.1.1.1.1.1.1.1.0 tt tt ▸ d_alu g.1.1.1.1.1.1.1.1.1.1.0 tt tt tt ▸ d_alu g.1.1.1.1.1.1.1.1.1.1.1.0 tt tt tt ▸ d_alu g.1.1.1.1.1.1.1.1.1.1.1.1.0 tt tt tt ▸ d_lw g.1.1.1.1.1.1.1.1.1.1.1.1.1.0 tt t.0 ▸ d_alui g.1.1.1.1.1.1.1.1.1.1.1.1.1.1.0 tt tt ▸ d_swr (where_at a + n) g.1.1.1.1.1.1.1.1.1.1.1.1.1.1.1.0 tt tt (elem_place a n (elem_low a n cs e low_n)) in_all ▸ here,
            inside (put_match_as a n (y % 256) (and_w y 255) (byte_is y) cs e low_n (omega arith) _ _ (then_is c s v h (s_put false (o_top a) i b) k)),
          )
