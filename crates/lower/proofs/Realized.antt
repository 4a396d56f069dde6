-- Each instruction with places does on the processor what it says: the address arithmetic is here, and nowhere else.
use mathlib.Core.Path.{◌≡◌, refl, sym, ap, ◌∙◌}
use mathlib.Core.Bool.{Bool, true, false, ◌&&◌, ◌||◌, not}
use mathlib.Core.List.{List, [], ◌∷◌, ◌++◌}
use mathlib.Core.Option.{some}
use Prim.Native.Nat.{ℕ, suc, ◌+◌, ◌-◌, ◌*◌, ◌/◌, ◌%◌, ◌≤◌, ◌<◌}
use native.Mathlib.Omega.{arith}
use native.Mathlib.Decide.{dec_lt}
use native.Mathlib.Nat.{add_assoc}
use lib.ListN.{length}
use lib.Dec.{T, eqb, ltb, leb, eqb→eq, leb→le, ltb→lt}
use borrow.Author.Tests.{eqb-true, eqb-false, eq-eqb, ne_eqb}
use Rattle.language.specs.Syntax.{pick, opt, nth, put}
use Rattle.language.specs.Words.{all, add, sub}
use Rattle.processor.specs.declared.instr.Imm.{Imm}
use Rattle.processor.specs.declared.instr.Alu.{Alu}
use Rattle.processor.specs.declared.instr.Prod.{Prod}
use Rattle.processor.specs.Instr.{exec, by_imm, by_alu, by_prod}
use Rattle.processor.specs.Machine.{Machine, goes, halts, faults, reg, set_reg, at_pc, on, load, stored, put_reg, reads, envs, does, step}
use Rattle.lower.proofs.Lists.{length-put, nth_low, nth-put-same, nth-put-other, nth_left, nth_right, put-left, put_right, nth_in}
use Rattle.lower.proofs.Instructions.{LI, l_lw, l_sw, l_num, l_lui, l_alui, l_alu, l_bz, l_bnz, l_mul, l_bge, l_j, l_jal, l_ret, l_callr, l_sp, l_room, l_downr, l_upr, off, stack_at, l_ecall, l_addg, l_lwr, l_swr, base, floor_at, rel, to_real, gp, Env, V, sets, keeps, jumps, links, slides, prints, got, address}

-- the processor's state is the state
pub record Sees (e : Env) (m : Machine) (v : V) : Type 0 where
  pub is_mem : m.mem ≡ e.pre ++ (e.code ++ (v.cells ++ e.post))
  pub is_pc : m.pc ≡ address e v.pc
  pub len : length m.regs ≡ 32
  pub is_sp : reg m 2 ≡ (4 * (base e + v.sp) + 2048) % all
  pub is_floor : reg m 3 ≡ 4 * (base e + e.floor) % all
  pub is_r : (q : ℕ) → T (gp q) → reg m q ≡ v.r q
  pub is_ins : m.ins ≡ v.ins
  pub is_outs : m.outs ≡ v.outs
  pub long : length v.cells ≡ e.total

unfoldable pub Goes : Env → Machine → V → Type 0
Goes e m v = (m1 : Machine) × (step m ≡ goes m1) × Sees e m1 v

-- registers
or_cases : (a b : Bool) (C : Type 0) → (T a → C) → (T b → C) → T (a || b) → C
or_cases true b C f g h = f tt
or_cases false b C f g h = g h

pub and_1 : (a b : Bool) → T (a && b) → T a
and_1 true b h = tt
and_1 false b h = h

pub and_2 : (a b : Bool) → T (a && b) → T b
and_2 true b h = h
and_2 false b h = absurd h

pub record Free (d : ℕ) : Type 0 where
  pub low : d < 32
  pub not0 : d ≡ 0 → ⊥
  pub not2 : d ≡ 2 → ⊥
  pub not3 : d ≡ 3 → ⊥

pub free : (d : ℕ) → T (gp d) → Free d
free d h = or_cases (eqb d 1) (leb 5 d && ltb d 32) (Free d) (λ a. let e : d ≡ 1 = eqb→eq d 1 a in omega arith) (λ b. let e : 5 ≤ d = leb→le 5 d (and_1 (leb 5 d) (ltb d 32) b) in let f : d < 32 = ltb→lt d 32 (and_2 (leb 5 d) (ltb d 32) b) in omega arith) h

reg_same : (m : Machine) (d x : ℕ) → length m.regs ≡ 32 → d < 32 → (d ≡ 0 → ⊥) → reg (set_reg m d x) d ≡ x
reg_same m d x l h n = let e : eqb d 0 ≡ false = ne_eqb d 0 n in let k : d < length m.regs = omega arith in rw (e, nth-put-same m.regs d x k)

reg-other : (m : Machine) (d x q : ℕ) → (d ≡ q → ⊥) → reg (set_reg m d x) q ≡ reg m q
reg-other m d x q n = rw (nth-put-other m.regs d q x n)

pub reg-set : (m : Machine) (d x q : ℕ) → length m.regs ≡ 32 → d < 32 → (d ≡ 0 → ⊥) → reg (set_reg m d x) q ≡ pick (eqb q d) x (reg m q)
reg-set m d x q l h n = go (eqb q d) refl
  where
    go : (b : Bool) → eqb q d ≡ b → reg (set_reg m d x) q ≡ pick (eqb q d) x (reg m q)
    go true t = let i : q ≡ d = eqb-true q d t in rw (t, i) (reg_same m d x l h n)
    go false t = rw t (reg-other m d x q (λ i. eqb-false q d t (sym i)))

-- memory
load_at : (m : Machine) (a j : ℕ) → a ≡ 4 * j → load m a ≡ nth m.mem j
load_at m a j h = let i : eqb (a % 4) 0 ≡ true = eq-eqb (a % 4) 0 (omega arith) in let k : a / 4 ≡ j = omega arith in rw (i, k)

-- what is left of the stack's part, also where its end is the end of all addresses
pub wraps : (x y : ℕ) → x ≡ y % all → y ≡ all → x ≡ 0
wraps x y i h = i ∙ ap (λ z. z % all) h

pub stays : (x y : ℕ) → x ≡ y % all → y < all → x ≡ y
stays x y i h = omega arith

room-is : (b s f x y : ℕ) → 1 ≤ b → f ≤ s → 4 * (b + s) ≤ all → x ≡ 4 * (b + s) % all → y ≡ 4 * (b + f) % all → sub x y ≡ 4 * (s - f)
room-is b s f x y o h k i j = go (dec_lt (4 * (b + s)) all) (dec_lt f s)
  where
    go : Dec (4 * (b + s) < all) → Dec (f < s) → sub x y ≡ 4 * (s - f)
    go (yes c) d = let u : x ≡ 4 * (b + s) = stays _ _ i c in let w : y ≡ 4 * (b + f) = stays _ _ j (omega arith) in omega arith
    go (no c) (yes d) = let u : x ≡ 0 = wraps _ _ i (omega arith) in let w : y ≡ 4 * (b + f) = stays _ _ j (omega arith) in omega arith
    go (no c) (no d) = let u : x ≡ 0 = wraps _ _ i (omega arith) in let w : y ≡ 0 = wraps _ _ j (omega arith) in omega arith

down_is : (y n x : ℕ) → 4 * n < all → 4 * n ≤ y → x ≡ (y + 2048) % all → sub x (4 * n) ≡ ((y - 4 * n) + 2048) % all
down_is y n x k h i = omega arith

up_is : (y z n x : ℕ) → x ≡ (y + 2048) % all → z % all ≡ (y + 4 * n) % all → add x (4 * n) ≡ (z + 2048) % all
up_is y z n x i h = omega arith

sp-is : (y x : ℕ) → x ≡ (y + 2048) % all → add x 4294965248 ≡ y % all
sp-is y x i = omega arith

frame_is : (y k x : ℕ) → y + 4 * k < all → x ≡ (y + 2048) % all → add x (off k) ≡ y + 4 * k
frame_is y k x h i = omega arith

ret_is : (x y : ℕ) → x ≡ 4 * y % all → add x 0 / 2 * 2 ≡ 4 * y % all
ret_is x y i = omega arith

abbrev with_mem : Machine → List ℕ → Machine
with_mem m c = on (record { regs = m.regs; pc = m.pc; mem = c; ins = m.ins; outs = m.outs })

-- a write to a register that stands for none of the state's
abbrev link : Machine → ℕ → ℕ → Machine
link m d t = at_pc (set_reg m d (add m.pc 4)) t

module _ (e : Env) (m : Machine) (v : V) (s : Sees e m v) where
  -- a word of the data
  cell : (j : ℕ) → j < e.total → nth m.mem (base e + j) ≡ nth v.cells j
  cell j h = let (x, i) = nth_in v.cells j (omega (arith, s.long)) in rw (s.is_mem, add_assoc, nth_right, nth_right, i) (nth_left v.cells e.post j x i)

  cell_put : (j x : ℕ) → j < e.total → put m.mem (base e + j) x ≡ e.pre ++ (e.code ++ (put v.cells j x ++ e.post))
  cell_put j x h = let k : j < length v.cells = omega (arith, s.long) in rw (s.is_mem, add_assoc, put_right, put_right, put-left)

  -- fetching
  fetch : (i : LI) → nth e.row v.pc ≡ some i → step m ≡ exec (to_real v.pc i) m
  fetch i h =
      let (w, c, f) = e.coded v.pc i h in
      let k : v.pc < length e.code = nth_low e.code v.pc w c in
      let a : m.pc ≡ 4 * (length e.pre + v.pc) = omega (arith, s.is_pc, e.in_words) in
      let l : load m m.pc ≡ some w = load_at m m.pc (length e.pre + v.pc) a ∙ rw (s.is_mem, nth_right) (nth_left e.code (v.cells ++ e.post) v.pc w c) in
      ap (λ o. opt o faults (does m)) l ∙ f m

  on_pc : add m.pc 4 ≡ address e (suc v.pc)
  on_pc = omega (arith, s.is_pc)

  wrote : (d x : ℕ) → T (gp d) → Sees e (on (set_reg m d x)) (sets v d x)
  wrote d x g =
      let f : Free d = free d g in
      record {
        is_mem = s.is_mem;
        is_pc = on_pc;
        len = length-put m.regs d x ∙ s.len;
        is_sp = reg-other m d x 2 f.not2 ∙ s.is_sp;
        is_floor = reg-other m d x 3 f.not3 ∙ s.is_floor;
        is_r = λ q h. reg-set m d x q s.len f.low f.not0 ∙ ap (pick (eqb q d) x) (s.is_r q h);
        is_ins = s.is_ins;
        is_outs = s.is_outs;
        long = s.long;
      }

  -- an address in the frame
  in_frame : (k : ℕ) → v.sp + k < e.total → add (reg m 2) (off k) ≡ 4 * (base e + (v.sp + k))
  in_frame k h = frame_is (4 * (base e + v.sp)) k (reg m 2) (omega (arith, e.in_words)) s.is_sp ∙ omega arith

  moved_to : (t : ℕ) → Sees e (at_pc m (address e t)) (jumps v t)
  moved_to t = record { is_mem = s.is_mem; is_pc = refl; len = s.len; is_sp = s.is_sp; is_floor = s.is_floor; is_r = s.is_r; is_ins = s.is_ins; is_outs = s.is_outs; long = s.long }

  rel_pc : (p t : ℕ) → v.pc ≡ p → p < length e.code → add m.pc (rel p t) ≡ address e t
  rel_pc p t h k = omega (arith, s.is_pc, e.in_words)

  pub x_lw : {d k x : ℕ} → nth e.row v.pc ≡ some (l_lw d k) → T (gp d) → nth v.cells (v.sp + k) ≡ some x → Goes e m (sets v d x)
  unfolding Goes
  x_lw {d} {k} {x} i g c =
      let h : v.sp + k < e.total = omega (arith, s.long, nth_low v.cells (v.sp + k) x c) in
      let l : load m (add (reg m 2) (off k)) ≡ some x = load_at m _ _ (in_frame k h) ∙ cell (v.sp + k) h ∙ c in
      (on (set_reg m d x), fetch (l_lw d k) i ∙ ap (λ o. opt o faults (put_reg m d)) l, wrote d x g)

  wrote_mem : (a j d : ℕ) → a ≡ 4 * (base e + j) → j < e.total → T (gp d) → step m ≡ stored m a (reg m d) → Goes e m (keeps v j (v.r d))
  unfolding Goes
  wrote_mem a j d i h g z =
      let (old, c) = nth_in v.cells j (omega (arith, s.long)) in
      let l : load m a ≡ some old = load_at m _ _ i ∙ cell j h ∙ c in
      let k : a / 4 ≡ base e + j = omega arith in (
        with_mem m (put m.mem (base e + j) (v.r d)),
        z ∙ ap (λ o. opt o faults (λ x. goes (with_mem m (put m.mem (a / 4) (reg m d))))) l ∙ ap (λ n. goes (with_mem m (put m.mem n (reg m d)))) k ∙ ap (λ x. goes (with_mem m (put m.mem (base e + j) x))) (s.is_r d g),
        record { is_mem = cell_put j (v.r d) h; is_pc = on_pc; len = s.len; is_sp = s.is_sp; is_floor = s.is_floor; is_r = s.is_r; is_ins = s.is_ins; is_outs = s.is_outs; long = length-put v.cells j (v.r d) ∙ s.long },
      )

  pub x_sw : {d k : ℕ} → nth e.row v.pc ≡ some (l_sw d k) → T (gp d) → v.sp + k < e.total → Goes e m (keeps v (v.sp + k) (v.r d))
  x_sw {d} {k} i g h = wrote_mem (add (reg m 2) (off k)) (v.sp + k) d (in_frame k h) h g (fetch (l_sw d k) i)

  pub x_num : {d n : ℕ} → nth e.row v.pc ≡ some (l_num d n) → T (gp d) → n < all → Goes e m (sets v d n)
  unfolding Goes
  x_num {d} {n} i g h = let a : add 0 n ≡ n = omega arith in (on (set_reg m d n), fetch (l_num d n) i ∙ ap (put_reg m d) a, wrote d n g)

  pub x_lui : {d n : ℕ} → nth e.row v.pc ≡ some (l_lui d n) → T (gp d) → Goes e m (sets v d (n * 4096))
  unfolding Goes
  x_lui {d} {n} i g = (on (set_reg m d (n * 4096)), fetch (l_lui d n) i, wrote d (n * 4096) g)

  pub x_alui : {f : Imm} {d q n : ℕ} → nth e.row v.pc ≡ some (l_alui f d q n) → T (gp d) → T (gp q) → Goes e m (sets v d (by_imm f (v.r q) n))
  unfolding Goes
  x_alui {f} {d} {q} {n} i g h = (_, fetch (l_alui f d q n) i ∙ ap (λ x. put_reg m d (by_imm f x n)) (s.is_r q h), wrote d _ g)

  pub x_alu : {f : Alu} {d q t : ℕ} → nth e.row v.pc ≡ some (l_alu f d q t) → T (gp d) → T (gp q) → T (gp t) → Goes e m (sets v d (by_alu f (v.r q) (v.r t)))
  unfolding Goes
  x_alu {f} {d} {q} {t} i g h k = (_, fetch (l_alu f d q t) i ∙ ap (λ x. put_reg m d (by_alu f x (reg m t))) (s.is_r q h) ∙ ap (λ y. put_reg m d (by_alu f (v.r q) y)) (s.is_r t k), wrote d _ g)

  row_low : (i : LI) → nth e.row v.pc ≡ some i → v.pc < length e.code
  row_low i h = let (w, c, f) = e.coded v.pc i h in nth_low e.code v.pc w c

  -- both ways of a branch
  branched : (b : Bool) (n t : ℕ) → add m.pc n ≡ address e t → Sees e (pick b (at_pc m (add m.pc n)) (on m)) (jumps v (pick b t (suc v.pc)))
  branched true n t h = rw h (moved_to t)
  branched false n t h = rw on_pc (moved_to (suc v.pc))

  pub x_bz : {q t : ℕ} → nth e.row v.pc ≡ some (l_bz q t) → T (gp q) → Goes e m (jumps v (pick (eqb (v.r q) 0) t (suc v.pc)))
  unfolding Goes
  x_bz {q} {t} i g = (_, fetch (l_bz q t) i ∙ ap (λ x. goes (pick (eqb x 0) (at_pc m (add m.pc (rel v.pc t))) (on m))) (s.is_r q g), branched (eqb (v.r q) 0) (rel v.pc t) t (rel_pc v.pc t refl (row_low (l_bz q t) i)))

  pub x_bnz : {q t : ℕ} → nth e.row v.pc ≡ some (l_bnz q t) → T (gp q) → Goes e m (jumps v (pick (not (eqb (v.r q) 0)) t (suc v.pc)))
  unfolding Goes
  x_bnz {q} {t} i g = (_, fetch (l_bnz q t) i ∙ ap (λ x. goes (pick (not (eqb x 0)) (at_pc m (add m.pc (rel v.pc t))) (on m))) (s.is_r q g), branched (not (eqb (v.r q) 0)) (rel v.pc t) t (rel_pc v.pc t refl (row_low (l_bnz q t) i)))

  pub x_mul : {f : Prod} {d q t : ℕ} → nth e.row v.pc ≡ some (l_mul f d q t) → T (gp d) → T (gp q) → T (gp t) → Goes e m (sets v d (by_prod f (v.r q) (v.r t)))
  unfolding Goes
  x_mul {f} {d} {q} {t} i g h k = (_, fetch (l_mul f d q t) i ∙ ap (λ x. put_reg m d (by_prod f x (reg m t))) (s.is_r q h) ∙ ap (λ y. put_reg m d (by_prod f (v.r q) y)) (s.is_r t k), wrote d _ g)

  pub x_bge : {x y t : ℕ} → nth e.row v.pc ≡ some (l_bge x y t) → T (gp x) → T (gp y) → Goes e m (jumps v (pick (not (ltb (v.r x) (v.r y))) t (suc v.pc)))
  unfolding Goes
  x_bge {x} {y} {t} i g h = (_, fetch (l_bge x y t) i ∙ ap (λ a. goes (pick (not (ltb a (reg m y))) (at_pc m (add m.pc (rel v.pc t))) (on m))) (s.is_r x g) ∙ ap (λ a. goes (pick (not (ltb (v.r x) a)) (at_pc m (add m.pc (rel v.pc t))) (on m))) (s.is_r y h), branched (not (ltb (v.r x) (v.r y))) (rel v.pc t) t (rel_pc v.pc t refl (row_low (l_bge x y t) i)))

  -- a jump that leaves the free registers alone, or writes one of them
  linked : (d x t : ℕ) → T (gp d) → Sees e (at_pc (set_reg m d x) (address e t)) (jumps (sets v d x) t)
  linked d x t g = let f : Sees e (on (set_reg m d x)) (sets v d x) = wrote d x g in record { is_mem = f.is_mem; is_pc = refl; len = f.len; is_sp = f.is_sp; is_floor = f.is_floor; is_r = f.is_r; is_ins = f.is_ins; is_outs = f.is_outs; long = f.long }

  unlinked : (x t : ℕ) → Sees e (at_pc (set_reg m 0 x) (address e t)) (jumps v t)
  unlinked x t = record { is_mem = s.is_mem; is_pc = refl; len = length-put m.regs 0 x ∙ s.len; is_sp = reg-other m 0 x 2 (omega arith) ∙ s.is_sp; is_floor = reg-other m 0 x 3 (omega arith) ∙ s.is_floor; is_r = λ q g. reg-other m 0 x q (λ i. (free q g).not0 (sym i)) ∙ s.is_r q g; is_ins = s.is_ins; is_outs = s.is_outs; long = s.long }

  slid : (x n : ℕ) → x ≡ (4 * (base e + n) + 2048) % all → Sees e (on (set_reg m 2 x)) (slides v n)
  slid x n h = record { is_mem = s.is_mem; is_pc = on_pc; len = length-put m.regs 2 x ∙ s.len; is_sp = reg_same m 2 x s.len (omega arith) (omega arith) ∙ h; is_floor = reg-other m 2 x 3 (omega arith) ∙ s.is_floor; is_r = λ q g. reg-other m 2 x q (λ i. (free q g).not2 (sym i)) ∙ s.is_r q g; is_ins = s.is_ins; is_outs = s.is_outs; long = s.long }

  pub x_j : {t : ℕ} → nth e.row v.pc ≡ some (l_j t) → Goes e m (jumps v t)
  unfolding Goes
  x_j {t} i = (_, fetch (l_j t) i ∙ ap (λ n. goes (link m 0 n)) (rel_pc v.pc t refl (row_low (l_j t) i)), unlinked _ t)

  pub x_jal : {t : ℕ} → nth e.row v.pc ≡ some (l_jal t) → Goes e m (links v (address e (suc v.pc)) t)
  unfolding Goes
  x_jal {t} i = (_, fetch (l_jal t) i ∙ ap (λ n. goes (link m 1 n)) (rel_pc v.pc t refl (row_low (l_jal t) i)) ∙ ap (λ x. goes (at_pc (set_reg m 1 x) (address e t))) on_pc, linked 1 (address e (suc v.pc)) t tt)

  pub x_ret : (t : ℕ) → nth e.row v.pc ≡ some l_ret → v.r 1 ≡ address e t → Goes e m (jumps v t)
  unfolding Goes
  x_ret t i h = (_, fetch l_ret i ∙ ap (λ n. goes (link m 0 n)) (ret_is (reg m 1) (length e.pre + t) (s.is_r 1 tt ∙ h)), unlinked _ t)

  pub x_callr : {q : ℕ} (t : ℕ) → nth e.row v.pc ≡ some (l_callr q) → T (gp q) → v.r q ≡ address e t → Goes e m (links v (address e (suc v.pc)) t)
  unfolding Goes
  x_callr {q} t i g h = (_, fetch (l_callr q) i ∙ ap (λ n. goes (link m 1 n)) (ret_is (reg m q) (length e.pre + t) (s.is_r q g ∙ h)) ∙ ap (λ x. goes (at_pc (set_reg m 1 x) (address e t))) on_pc, linked 1 (address e (suc v.pc)) t tt)

  pub x_sp : {d : ℕ} → nth e.row v.pc ≡ some (l_sp d) → T (gp d) → Goes e m (sets v d (stack_at e v.sp))
  unfolding Goes
  x_sp {d} i g = (_, fetch (l_sp d) i ∙ ap (put_reg m d) (sp-is (4 * (base e + v.sp)) (reg m 2) s.is_sp), wrote d _ g)

  pub x_room : {d q : ℕ} → nth e.row v.pc ≡ some (l_room d q) → T (gp d) → T (gp q) → v.r q ≡ stack_at e v.sp → e.floor ≤ v.sp → v.sp ≤ e.total → Goes e m (sets v d (4 * (v.sp - e.floor)))
  unfolding Goes
  x_room {d} {q} i g f c h k =
      let a : sub (reg m q) (reg m 3) ≡ 4 * (v.sp - e.floor) = room-is (base e) v.sp e.floor _ _ (omega (arith, e.some_code)) h (omega (arith, e.in_words)) (s.is_r q f ∙ c) s.is_floor in
      (_, fetch (l_room d q) i ∙ ap (put_reg m d) a, wrote d _ g)

  pub x_down : {q : ℕ} (n : ℕ) → nth e.row v.pc ≡ some (l_downr q) → T (gp q) → v.r q ≡ 4 * n → 4 * n < all → n ≤ v.sp → Goes e m (slides v (v.sp - n))
  unfolding Goes
  x_down {q} n i g c l h =
      let z : 4 * (base e + v.sp) - 4 * n ≡ 4 * (base e + (v.sp - n)) = omega arith in
      (_, fetch (l_downr q) i ∙ ap (λ y. put_reg m 2 (sub (reg m 2) y)) (s.is_r q g ∙ c), slid _ (v.sp - n) (down_is (4 * (base e + v.sp)) n (reg m 2) l (omega arith) s.is_sp ∙ ap (λ y. (y + 2048) % all) z))

  pub x_up : {q : ℕ} (n t : ℕ) → nth e.row v.pc ≡ some (l_upr q) → T (gp q) → v.r q ≡ 4 * n → stack_at e t ≡ stack_at e (v.sp + n) → Goes e m (slides v t)
  unfolding Goes
  x_up {q} n t i g c h =
      let z : 4 * (base e + (v.sp + n)) ≡ 4 * (base e + v.sp) + 4 * n = omega arith in
      (_, fetch (l_upr q) i ∙ ap (λ y. put_reg m 2 (add (reg m 2) y)) (s.is_r q g ∙ c), slid _ t (up_is (4 * (base e + v.sp)) (4 * (base e + t)) n (reg m 2) s.is_sp (h ∙ ap (λ y. y % all) z)))

  pub x_out : nth e.row v.pc ≡ some l_ecall → v.r 17 ≡ 1 → Goes e m (prints v)
  unfolding Goes
  x_out i h =
      let a : reg m 17 ≡ 1 = s.is_r 17 tt ∙ h in
      (_, fetch l_ecall i ∙ ap (envs m) a, record { is_mem = s.is_mem; is_pc = on_pc; len = s.len; is_sp = s.is_sp; is_floor = s.is_floor; is_r = s.is_r; is_ins = s.is_ins; is_outs = ap (λ o. o ++ (reg m 10 ∷ [])) s.is_outs ∙ ap (λ x. v.outs ++ (x ∷ [])) (s.is_r 10 tt); long = s.long })

  -- two registers, one after the other, and the rest of what there is to read
  read_both : (x y : ℕ) (l : List ℕ) → Sees e (on (set_reg (set_reg (record { regs = m.regs; pc = m.pc; mem = m.mem; ins = l; outs = m.outs }) 10 x) 11 y)) (got v x y l)
  read_both x y l =
      let n : Machine = set_reg m 10 x in
      let k : length n.regs ≡ 32 = length-put m.regs 10 x ∙ s.len in
      record {
        is_mem = s.is_mem;
        is_pc = on_pc;
        len = length-put n.regs 11 y ∙ k;
        is_sp = reg-other n 11 y 2 (omega arith) ∙ reg-other m 10 x 2 (omega arith) ∙ s.is_sp;
        is_floor = reg-other n 11 y 3 (omega arith) ∙ reg-other m 10 x 3 (omega arith) ∙ s.is_floor;
        is_r = λ q h. reg-set n 11 y q k (omega arith) (omega arith) ∙ ap (pick (eqb q 11) y) (reg-set m 10 x q s.len (omega arith) (omega arith) ∙ ap (pick (eqb q 10) x) (s.is_r q h));
        is_ins = refl;
        is_outs = s.is_outs;
        long = s.long;
      }

  pub x_in : {x : ℕ} {l : List ℕ} → nth e.row v.pc ≡ some l_ecall → v.r 17 ≡ 2 → v.ins ≡ x ∷ l → Goes e m (got v x 1 l)
  unfolding Goes
  x_in {x} {l} i h k = (_, fetch l_ecall i ∙ ap (envs m) (s.is_r 17 tt ∙ h) ∙ ap (reads m) (s.is_ins ∙ k), read_both x 1 l)

  pub x_none : nth e.row v.pc ≡ some l_ecall → v.r 17 ≡ 2 → v.ins ≡ [] → Goes e m (got v 0 0 [])
  unfolding Goes
  x_none i h k = (_, fetch l_ecall i ∙ ap (envs m) (s.is_r 17 tt ∙ h) ∙ ap (reads m) (s.is_ins ∙ k), unread (s.is_ins ∙ k) (read_both 0 0 []))
    where
      unread : m.ins ≡ [] → Sees e (on (set_reg (set_reg (record { regs = m.regs; pc = m.pc; mem = m.mem; ins = []; outs = m.outs }) 10 0) 11 0)) (got v 0 0 []) → Sees e (on (set_reg (set_reg m 10 0) 11 0)) (got v 0 0 [])
      unread z t = record { is_mem = t.is_mem; is_pc = t.is_pc; len = t.len; is_sp = t.is_sp; is_floor = t.is_floor; is_r = t.is_r; is_ins = z; is_outs = t.is_outs; long = t.long }

  pub x_addg : {d q : ℕ} → nth e.row v.pc ≡ some (l_addg d q) → T (gp d) → T (gp q) → Goes e m (sets v d (add (v.r q) (floor_at e)))
  unfolding Goes
  x_addg {d} {q} i g h = (_, fetch (l_addg d q) i ∙ ap (λ x. put_reg m d (add x (reg m 3))) (s.is_r q h) ∙ ap (λ y. put_reg m d (add (v.r q) y)) s.is_floor, wrote d _ g)

  at_cell : (q n j : ℕ) → T (gp q) → add (v.r q) n ≡ 4 * (base e + j) → add (reg m q) n ≡ 4 * (base e + j)
  at_cell q n j g h = ap (λ x. add x n) (s.is_r q g) ∙ h

  pub x_lwr : {d q n x : ℕ} (j : ℕ) → nth e.row v.pc ≡ some (l_lwr d q n) → T (gp d) → T (gp q) → add (v.r q) n ≡ 4 * (base e + j) → nth v.cells j ≡ some x → Goes e m (sets v d x)
  unfolding Goes
  x_lwr {d} {q} {n} {x} j i g h a c =
      let k : j < e.total = omega (arith, s.long, nth_low v.cells j x c) in
      let l : load m (add (reg m q) n) ≡ some x = load_at m _ _ (at_cell q n j h a) ∙ cell j k ∙ c in
      (on (set_reg m d x), fetch (l_lwr d q n) i ∙ ap (λ o. opt o faults (put_reg m d)) l, wrote d x g)

  pub x_lwc : {d q n x : ℕ} (j : ℕ) → nth e.row v.pc ≡ some (l_lwr d q n) → T (gp d) → T (gp q) → add (v.r q) n ≡ 4 * (length e.pre + j) → nth e.code j ≡ some x → Goes e m (sets v d x)
  unfolding Goes
  x_lwc {d} {q} {n} {x} j i g h a c =
      let l : load m (add (reg m q) n) ≡ some x = load_at m _ (length e.pre + j) (ap (λ y. add y n) (s.is_r q h) ∙ a) ∙ rw (s.is_mem, nth_right) (nth_left e.code (v.cells ++ e.post) j x c) in
      (on (set_reg m d x), fetch (l_lwr d q n) i ∙ ap (λ o. opt o faults (put_reg m d)) l, wrote d x g)

  pub x_swr : {d q n : ℕ} (j : ℕ) → nth e.row v.pc ≡ some (l_swr d q n) → T (gp d) → T (gp q) → add (v.r q) n ≡ 4 * (base e + j) → j < e.total → Goes e m (keeps v j (v.r d))
  unfolding Goes
  x_swr {d} {q} {n} j i g f a h = wrote_mem (add (reg m q) n) j d (at_cell q n j f a) h g (fetch (l_swr d q n) i)

  -- the ends
  pub x_end : nth e.row v.pc ≡ some l_ecall → v.r 17 ≡ 0 → step m ≡ halts 0 (v.r 10) m
  x_end i h = let a : reg m 17 ≡ 0 = s.is_r 17 tt ∙ h in fetch l_ecall i ∙ ap (envs m) a ∙ ap (λ x. halts 0 x m) (s.is_r 10 tt)

  pub x_trap : nth e.row v.pc ≡ some l_ecall → v.r 17 ≡ 3 → step m ≡ halts 3 (v.r 10) m
  x_trap i h = let a : reg m 17 ≡ 3 = s.is_r 17 tt ∙ h in fetch l_ecall i ∙ ap (envs m) a ∙ ap (λ x. halts 3 x m) (s.is_r 10 tt)

  pub x_full : nth e.row v.pc ≡ some l_ecall → v.r 17 ≡ 4 → step m ≡ halts 4 0 m
  x_full i h = let a : reg m 17 ≡ 4 = s.is_r 17 tt ∙ h in fetch l_ecall i ∙ ap (envs m) a
