-- What instructions with places for addresses do, and runs of them.
use mathlib.Core.Path.{◌≡◌}
use mathlib.Core.Bool.{Bool, ◌&&◌, ◌||◌, not}
use mathlib.Core.List.{List, [], ◌∷◌, ◌++◌}
use mathlib.Core.Option.{some}
use Prim.Native.Nat.{ℕ, suc, ◌+◌, ◌-◌, ◌*◌, ◌%◌, ◌≤◌, ◌<◌}
use lib.ListN.{length}
use lib.Dec.{T, eqb, ltb, leb}
use Rattle.language.specs.Syntax.{pick, nth, put}
use Rattle.language.specs.Words.{all, add}
use Rattle.processor.specs.Machine.{Machine, does}
use Rattle.processor.specs.declared.instr.Imm.{Imm}
use Rattle.processor.specs.declared.instr.Alu.{Alu}
use Rattle.processor.specs.declared.instr.Prod.{Prod}
use Rattle.processor.specs.Instr.{exec, by_imm, by_alu, by_prod}
pub use Rattle.lower.specs.Code.{LI, l_lw, l_sw, l_num, l_lui, l_alui, l_alu, l_bz, l_bnz, l_bge, l_mul, l_j, l_jal, l_ret, l_callr, l_sp, l_room, l_downr, l_upr, l_ecall, l_addg, l_lwr, l_swr, rel, off, to_real}

-- registers that the code uses freely: 1 and 5 to 31
abbrev pub gp : ℕ → Bool
gp q = eqb q 1 || (leb 5 q && ltb q 32)

-- what is around the data: memory is 'pre', the code's words, the data, 'post'
pub record Env : Type 0 where
  pub pre : List ℕ
  pub code : List ℕ
  pub post : List ℕ
  pub row : List LI
  -- words of data in all; the first 'floor' of them are the image's noughts, the rest is the stack's part
  pub total : ℕ
  pub floor : ℕ
  pub coded : (p : ℕ) (i : LI) → nth row p ≡ some i → (w : ℕ) × (nth code p ≡ some w) × ((m : Machine) → does m w ≡ exec (to_real p i) m)
  pub some_code : 1 ≤ length code
  pub floor_in : floor ≤ total
  pub in_words : 4 * ((length pre + length code) + total) ≤ all

-- a state: what the free registers hold, the frame's place among the data, the place in the row
pub record V : Type 0 where
  pub r : ℕ → ℕ
  pub sp : ℕ
  pub pc : ℕ
  pub cells : List ℕ
  pub ins : List ℕ
  pub outs : List ℕ

abbrev pub wr : (ℕ → ℕ) → ℕ → ℕ → ℕ → ℕ
wr r d x q = pick (eqb q d) x (r q)

abbrev pub sets : V → ℕ → ℕ → V
sets v d x = record { r = wr v.r d x; sp = v.sp; pc = suc v.pc; cells = v.cells; ins = v.ins; outs = v.outs }

abbrev pub keeps : V → ℕ → ℕ → V
keeps v j x = record { r = v.r; sp = v.sp; pc = suc v.pc; cells = put v.cells j x; ins = v.ins; outs = v.outs }

abbrev pub jumps : V → ℕ → V
jumps v t = record { r = v.r; sp = v.sp; pc = t; cells = v.cells; ins = v.ins; outs = v.outs }

abbrev pub links : V → ℕ → ℕ → V
links v x t = record { r = wr v.r 1 x; sp = v.sp; pc = t; cells = v.cells; ins = v.ins; outs = v.outs }

abbrev pub slides : V → ℕ → V
slides v s = record { r = v.r; sp = s; pc = suc v.pc; cells = v.cells; ins = v.ins; outs = v.outs }

abbrev pub prints : V → V
prints v = record { r = v.r; sp = v.sp; pc = suc v.pc; cells = v.cells; ins = v.ins; outs = v.outs ++ (v.r 10 ∷ []) }

-- registers 10 and 11 after reading, and what is left to read
abbrev pub got : V → ℕ → ℕ → List ℕ → V
got v x y l = record { r = wr (wr v.r 10 x) 11 y; sp = v.sp; pc = suc v.pc; cells = v.cells; ins = l; outs = v.outs }

-- a place in the row as an address
abbrev pub address : Env → ℕ → ℕ
address e p = 4 * (length e.pre + p) % all

-- a word of the data as an address, and the stack's floor
abbrev pub base : Env → ℕ
base e = length e.pre + length e.code

abbrev pub floor_at : Env → ℕ
floor_at e = 4 * (base e + e.floor) % all

abbrev pub stack_at : Env → ℕ → ℕ
stack_at e s = 4 * (base e + s) % all

-- one instruction, from v
pub data One (e : Env) (v : V) : V → Type 0 where
  d_lw : {d k x : ℕ} → nth e.row v.pc ≡ some (l_lw d k) → T (gp d) → nth v.cells (v.sp + k) ≡ some x → One e v (sets v d x)
  d_sw : {s k : ℕ} → nth e.row v.pc ≡ some (l_sw s k) → T (gp s) → v.sp + k < e.total → One e v (keeps v (v.sp + k) (v.r s))
  d_num : {d n : ℕ} → nth e.row v.pc ≡ some (l_num d n) → T (gp d) → n < all → One e v (sets v d n)
  d_lui : {d n : ℕ} → nth e.row v.pc ≡ some (l_lui d n) → T (gp d) → One e v (sets v d (n * 4096))
  d_alui : {f : Imm} {d s n : ℕ} → nth e.row v.pc ≡ some (l_alui f d s n) → T (gp d) → T (gp s) → One e v (sets v d (by_imm f (v.r s) n))
  d_alu : {f : Alu} {d s t : ℕ} → nth e.row v.pc ≡ some (l_alu f d s t) → T (gp d) → T (gp s) → T (gp t) → One e v (sets v d (by_alu f (v.r s) (v.r t)))
  d_bz : {s t : ℕ} → nth e.row v.pc ≡ some (l_bz s t) → T (gp s) → One e v (jumps v (pick (eqb (v.r s) 0) t (suc v.pc)))
  d_mul : {f : Prod} {d s t : ℕ} → nth e.row v.pc ≡ some (l_mul f d s t) → T (gp d) → T (gp s) → T (gp t) → One e v (sets v d (by_prod f (v.r s) (v.r t)))
  d_bnz : {s t : ℕ} → nth e.row v.pc ≡ some (l_bnz s t) → T (gp s) → One e v (jumps v (pick (not (eqb (v.r s) 0)) t (suc v.pc)))
  d_bge : {x y t : ℕ} → nth e.row v.pc ≡ some (l_bge x y t) → T (gp x) → T (gp y) → One e v (jumps v (pick (not (ltb (v.r x) (v.r y))) t (suc v.pc)))
  d_j : {t : ℕ} → nth e.row v.pc ≡ some (l_j t) → One e v (jumps v t)
  d_jal : {t : ℕ} → nth e.row v.pc ≡ some (l_jal t) → One e v (links v (address e (suc v.pc)) t)
  d_ret : (t : ℕ) → nth e.row v.pc ≡ some l_ret → v.r 1 ≡ address e t → One e v (jumps v t)
  d_callr : {q : ℕ} (t : ℕ) → nth e.row v.pc ≡ some (l_callr q) → T (gp q) → v.r q ≡ address e t → One e v (links v (address e (suc v.pc)) t)
  d_sp : {d : ℕ} → nth e.row v.pc ≡ some (l_sp d) → T (gp d) → One e v (sets v d (stack_at e v.sp))
  d_room : {d s : ℕ} → nth e.row v.pc ≡ some (l_room d s) → T (gp d) → T (gp s) → v.r s ≡ stack_at e v.sp → e.floor ≤ v.sp → v.sp ≤ e.total → One e v (sets v d (4 * (v.sp - e.floor)))
  d_down : {q : ℕ} (n : ℕ) → nth e.row v.pc ≡ some (l_downr q) → T (gp q) → v.r q ≡ 4 * n → 4 * n < all → n ≤ v.sp → One e v (slides v (v.sp - n))
  d_up : {q : ℕ} (n s : ℕ) → nth e.row v.pc ≡ some (l_upr q) → T (gp q) → v.r q ≡ 4 * n → stack_at e s ≡ stack_at e (v.sp + n) → One e v (slides v s)
  d_out : nth e.row v.pc ≡ some l_ecall → v.r 17 ≡ 1 → One e v (prints v)
  d_in : {x : ℕ} {l : List ℕ} → nth e.row v.pc ≡ some l_ecall → v.r 17 ≡ 2 → v.ins ≡ x ∷ l → One e v (got v x 1 l)
  d_none : nth e.row v.pc ≡ some l_ecall → v.r 17 ≡ 2 → v.ins ≡ [] → One e v (got v 0 0 [])
  d_addg : {d s : ℕ} → nth e.row v.pc ≡ some (l_addg d s) → T (gp d) → T (gp s) → One e v (sets v d (add (v.r s) (floor_at e)))
  d_lwr : {d s n x : ℕ} (i : ℕ) → nth e.row v.pc ≡ some (l_lwr d s n) → T (gp d) → T (gp s) → add (v.r s) n ≡ 4 * (base e + i) → nth v.cells i ≡ some x → One e v (sets v d x)
  -- from the code's part, which never changes
  d_lwc : {d s n x : ℕ} (i : ℕ) → nth e.row v.pc ≡ some (l_lwr d s n) → T (gp d) → T (gp s) → add (v.r s) n ≡ 4 * (length e.pre + i) → nth e.code i ≡ some x → One e v (sets v d x)
  d_swr : {d s n : ℕ} (i : ℕ) → nth e.row v.pc ≡ some (l_swr d s n) → T (gp d) → T (gp s) → add (v.r s) n ≡ 4 * (base e + i) → i < e.total → One e v (keeps v i (v.r d))

-- runs of instructions, from the state named last to the one named first
infixr 20 ◌▸◌
infixr 20 ◌▹◌
pub data Steps (e : Env) (w : V) : V → Type 0 where
  here : Steps e w w
  ◌▸◌ : {v u : V} → One e v u → Steps e w u → Steps e w v

-- at least one
pub data Some (e : Env) (w v : V) : Type 0 where
  ◌▹◌ : {u : V} → One e v u → Steps e w u → Some e w v
