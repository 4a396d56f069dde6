-- The instructions that the code is made of.
use Rattle.std.specs.Prelude.{ℕ, ◌+◌, ◌-◌, ◌*◌, ◌%◌}
use Rattle.language.specs.Words.{all}
use Rattle.processor.specs.declared.instr.Cond.TheVariants.{Beq, Bne, Bgeu}
use Rattle.processor.specs.declared.instr.Imm.{Imm}
use Rattle.processor.specs.declared.instr.Imm.TheVariants.{Addi}
use Rattle.processor.specs.declared.instr.Alu.{Alu}
use Rattle.processor.specs.declared.instr.Alu.TheVariants.{Add, Sub}
use Rattle.processor.specs.declared.instr.Prod.{Prod}
use Rattle.processor.specs.declared.instr.Instr.{Instr}
use Rattle.processor.specs.declared.instr.Instr.TheVariants.{Lui, Jal, Jalr, Branch, Lw, Sw, OpImm, Op, OpProd, Ecall}

-- instructions with the stack's register told apart, words of the frame by their number, and jumps to a place of the row
pub data LI : Type 0 where
  l_lw : ℕ → ℕ → LI
  l_sw : ℕ → ℕ → LI
  l_num : ℕ → ℕ → LI
  l_lui : ℕ → ℕ → LI
  l_alui : Imm → ℕ → ℕ → ℕ → LI
  l_alu : Alu → ℕ → ℕ → ℕ → LI
  l_bz : ℕ → ℕ → LI
  l_bnz : ℕ → ℕ → LI
  l_bge : ℕ → ℕ → ℕ → LI
  l_mul : Prod → ℕ → ℕ → ℕ → LI
  l_j : ℕ → LI
  l_jal : ℕ → LI
  l_ret : LI
  -- a call of what stands at the address in a register
  l_callr : ℕ → LI
  l_sp : ℕ → LI
  l_room : ℕ → ℕ → LI
  l_downr : ℕ → LI
  l_upr : ℕ → LI
  l_ecall : LI
  l_addg : ℕ → ℕ → LI
  l_lwr : ℕ → ℕ → ℕ → LI
  l_swr : ℕ → ℕ → ℕ → LI

abbrev pub rel : ℕ → ℕ → ℕ
rel p t = ((4 * t + all) - 4 * p) % all

-- register 2 is 2,048 above the frame's first word, so that 1,024 words of the frame are in reach of a signed number of 12 bits
abbrev pub off : ℕ → ℕ
off k = (4 * k + (all - 2048)) % all

abbrev pub to_real : ℕ → LI → Instr
to_real p (l_lw d k) = Lw d 2 (off k)
to_real p (l_sw s k) = Sw 2 s (off k)
to_real p (l_num d n) = OpImm Addi d 0 n
to_real p (l_lui d n) = Lui d n
to_real p (l_alui f d s n) = OpImm f d s n
to_real p (l_alu f d s t) = Op f d s t
to_real p (l_bz s t) = Branch Beq s 0 (rel p t)
to_real p (l_mul f d s t) = OpProd f d s t
to_real p (l_bnz s t) = Branch Bne s 0 (rel p t)
to_real p (l_bge x y t) = Branch Bgeu x y (rel p t)
to_real p (l_j t) = Jal 0 (rel p t)
to_real p (l_jal t) = Jal 1 (rel p t)
to_real p l_ret = Jalr 0 1 0
to_real p (l_callr q) = Jalr 1 q 0
to_real p (l_sp d) = OpImm Addi d 2 (all - 2048)
to_real p (l_room d s) = Op Sub d s 3
to_real p (l_downr q) = Op Sub 2 2 q
to_real p (l_upr q) = Op Add 2 2 q
to_real p l_ecall = Ecall
to_real p (l_addg d s) = Op Add d s 3
to_real p (l_lwr d s n) = Lw d s n
to_real p (l_swr d s n) = Sw s d n
