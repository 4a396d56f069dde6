-- What a function does before its first step: it looks whether there is room, and makes its frame.
use mathlib.Core.Path.{◌≡◌, refl, sym, ap, subst, ◌∙◌}
use mathlib.Core.Bool.{true, false}
use mathlib.Core.Logic.{inl, inr}
use mathlib.Core.List.{List, ◌∷◌, ◌++◌}
use mathlib.Core.Option.{some}
use Prim.Native.Nat.{ℕ, suc, ◌+◌, ◌-◌, ◌*◌, ◌≤◌, ◌<◌}
use native.Mathlib.Omega.{arith}
use native.Mathlib.Nat.{add-zero}
use lib.ListN.{length}
use lib.Dec.{ltb}
use Rattle.language.specs.Syntax.{nth}
use Rattle.language.specs.Words.{all, add}
use Rattle.lower.specs.Lower.{frame_size, high, low, prologue, stores}
use Rattle.lower.proofs.InRow.{Seg, past}
use Rattle.steps.specs.Steps.{MFn}
use Rattle.lower.proofs.Lists.{length-put, nth-put-same, nth-put-other}
use Rattle.lower.proofs.Instructions.{Env, V, LI, l_ecall, l_num, wr, sets, keeps, jumps, slides, Steps, here, ◌▸◌, d_sw, d_num, d_sp, d_room, d_down, d_lui, d_alui, stack_at}
use Rattle.lower.proofs.Runs.{and_on, taken_bge, left_bge}
use Rattle.lower.proofs.Operators.{num-is, seg_left, seg_right, past_both}
use Rattle.lower.proofs.Arguments.{gp_free, wr-other, Stored, stores_run}

not_56 : (r : ℕ → ℕ) (a b c d i : ℕ) → 10 ≤ i → wr (wr (wr (wr r 5 a) 5 b) 6 c) 6 d i ≡ r i
not_56 r a b c d i h = wr-other (wr (wr (wr r 5 a) 5 b) 6 c) 6 d i (omega arith) ∙ wr-other (wr (wr r 5 a) 5 b) 6 c i (omega arith) ∙ wr-other (wr r 5 a) 5 b i (omega arith) ∙ wr-other r 5 a i (omega arith)

pub record Overflows (e : Env) (v w : V) : Type 0 where
  pub calls : nth e.row w.pc ≡ some l_ecall
  pub number : w.r 17 ≡ 4
  pub is_ins : w.ins ≡ v.ins
  pub is_outs : w.outs ≡ v.outs

pub full_run : (e : Env) (t : MFn) (v : V) → 4 * frame_size t < all → e.floor ≤ v.sp → v.sp ≤ e.total → ltb (4 * (v.sp - e.floor)) (4 * frame_size t) ≡ true → Seg e.row v.pc (prologue v.pc t) → (w : V) × Steps e w v × Overflows e v w
full_run e t v a b l z g = (_, d_sp g.0 tt ▸ d_room g.1.0 tt tt refl b l ▸ d_lui g.1.1.0 tt ▸ d_alui g.1.1.1.0 tt tt ▸ left_bge g.1.1.1.1.0 tt tt (rw (num-is (4 * frame_size t) a) z) ▸ d_num g.1.1.1.1.1.0 tt (omega arith) ▸ here, record { calls = g.1.1.1.1.1.1.0; number = refl; is_ins = refl; is_outs = refl })

pub record Enters (e : Env) (t : MFn) (v : V) : Type 0 where
  pub cs : List ℕ
  pub r : ℕ → ℕ
  pub steps : Steps e (record { r = r; sp = v.sp - frame_size t; pc = past v.pc (prologue v.pc t); cells = cs; ins = v.ins; outs = v.outs }) v
  pub ra : nth cs (v.sp - frame_size t) ≡ some (v.r 1)
  pub args : (j : ℕ) → j < t.params → nth cs ((v.sp - frame_size t) + suc j) ≡ some (v.r (10 + j))
  pub vars : (j : ℕ) → t.params ≤ j → j < t.params + t.vars → nth cs ((v.sp - frame_size t) + suc j) ≡ some 0
  pub low : (i : ℕ) → i < v.sp - frame_size t → nth cs i ≡ nth v.cells i
  pub high : (i : ℕ) → v.sp ≤ i → nth cs i ≡ nth v.cells i
  pub long : length cs ≡ e.total

module _ (e : Env) (t : MFn) (v : V) (small : 4 * frame_size t < all) (few : t.params ≤ 8) (own : t.params + t.vars ≤ t.places) (above : e.floor ≤ v.sp) (in_all : v.sp ≤ e.total) (len : length v.cells ≡ e.total) (room : frame_size t ≤ v.sp - e.floor) (g : Seg e.row v.pc (prologue v.pc t)) where
  -- at the stores of the arguments
  abbrev a0 : V
  a0 = keeps (slides (jumps (sets (sets (sets (sets v 5 (stack_at e v.sp)) 5 (4 * (v.sp - e.floor))) 6 (high (4 * frame_size t))) 6 (add (high (4 * frame_size t)) (low (4 * frame_size t)))) (suc (suc (suc (suc (suc (suc (suc v.pc)))))))) (v.sp - frame_size t)) ((v.sp - frame_size t) + 0) (v.r 1)

  abbrev rest : List LI
  rest = l_num 5 0 ∷ stores (λ j. 5) t.params t.vars

  abbrev rows : Seg e.row a0.pc (stores (λ j. 10 + j) 0 t.params ++ rest)
  rows = g.1.1.1.1.1.1.1.1.1

  to_a0 : (w : V) → ltb (4 * (v.sp - e.floor)) (4 * frame_size t) ≡ false → Steps e w a0 → Steps e w v
  to_a0 w z k = d_sp g.0 tt ▸ d_room g.1.0 tt tt refl above in_all ▸ d_lui g.1.1.0 tt ▸ d_alui g.1.1.1.0 tt tt ▸ taken_bge g.1.1.1.1.0 tt tt (rw (num-is (4 * frame_size t) small) z) ▸ d_down (frame_size t) g.1.1.1.1.1.1.1.0 tt (num-is (4 * frame_size t) small) small (omega arith) ▸ d_sw g.1.1.1.1.1.1.1.1.0 tt (omega arith) ▸ k

  with_args : Stored e (λ j. 10 + j) t.params 0 a0
  with_args = stores_run e (λ j. 10 + j) t.params 0 a0 (λ j h i. gp_free (10 + j) (omega arith) (omega arith)) (length-put v.cells ((v.sp - frame_size t) + 0) (v.r 1) ∙ len) (omega arith) (seg_left e.row a0.pc (stores (λ j. 10 + j) 0 t.params) rest rows)

  -- at the stores of the variables
  abbrev b1 : List ℕ → V
  b1 cs = sets (record { r = a0.r; sp = v.sp - frame_size t; pc = past a0.pc (stores (λ j. 10 + j) 0 t.params); cells = cs; ins = v.ins; outs = v.outs }) 5 0

  others : Seg e.row (past a0.pc (stores (λ j. 10 + j) 0 t.params)) rest
  others = seg_right e.row a0.pc (stores (λ j. 10 + j) 0 t.params) rest rows

  long_a0 : length a0.cells ≡ e.total
  long_a0 = length-put v.cells ((v.sp - frame_size t) + 0) (v.r 1) ∙ len

  with_vars : (b : Stored e (λ j. 10 + j) t.params 0 a0) → Stored e (λ j. 5) t.vars t.params (b1 b.cs)
  with_vars b = stores_run e (λ j. 5) t.vars t.params (b1 b.cs) (λ j h i. tt) (b.long ∙ long_a0) (omega arith) others.1

  enters : ltb (4 * (v.sp - e.floor)) (4 * frame_size t) ≡ false → (b : Stored e (λ j. 10 + j) t.params 0 a0) → Stored e (λ j. 5) t.vars t.params (b1 b.cs) → Enters e t v
  enters z b w =
      record {
        cs = w.cs;
        r = (b1 b.cs).r;
        steps = to_a0 _ z (and_on b.steps (d_num others.0 tt (omega arith) ▸ subst (λ p. Steps e (record { r = (b1 b.cs).r; sp = v.sp - frame_size t; pc = p; cells = w.cs; ins = v.ins; outs = v.outs }) (b1 b.cs)) (sym (past_both a0.pc (stores (λ j. 10 + j) 0 t.params) rest)) w.steps));
        ra = w.old _ (inl (omega arith)) ∙ b.old _ (inl (omega arith)) ∙ rw add-zero (nth-put-same v.cells (v.sp - frame_size t) (v.r 1) (omega arith));
        args = λ j h. w.old _ (inl (omega arith)) ∙ b.new j (omega arith) (omega arith) ∙ ap some (not_56 v.r _ _ _ _ (10 + j) (omega arith));
        vars = λ j h k. w.new j h k;
        low = λ i h. w.old i (inl (omega arith)) ∙ b.old i (inl (omega arith)) ∙ nth-put-other v.cells ((v.sp - frame_size t) + 0) i (v.r 1) (omega arith);
        high = λ i h. w.old i (inr (omega arith)) ∙ b.old i (inr (omega arith)) ∙ nth-put-other v.cells ((v.sp - frame_size t) + 0) i (v.r 1) (omega arith);
        long = w.long ∙ b.long ∙ long_a0;
      }

  pub enter_run : ltb (4 * (v.sp - e.floor)) (4 * frame_size t) ≡ false → Enters e t v
  enter_run z = enters z with_args (with_vars with_args)
