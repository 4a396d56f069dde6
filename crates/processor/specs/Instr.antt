-- Instructions as data, as words, and what each does.
use Rattle.std.specs.Prelude.{◌≡◌, ℕ, ◌+◌, ◌*◌, ◌/◌, ◌%◌, ◌<◌, Bool, not, ◌==◌, nat_lt}
use Rattle.language.specs.Syntax.{pick, opt}
use Rattle.language.specs.Words.{all, bit, and_w, or_w, xor_w, add, sub, mul, shl, shr}
use Rattle.processor.specs.Machine.{Machine, Next, goes, faults, reg, set_reg, at_pc, on, load, less_s, sar, stored, put_reg, envs, does}
use Rattle.processor.specs.declared.instr.Cond.{Cond}
use Rattle.processor.specs.declared.instr.Cond.TheVariants.{Beq, Bne, Blt, Bge, Bltu, Bgeu}
use Rattle.processor.specs.declared.instr.Imm.{Imm}
use Rattle.processor.specs.declared.instr.Imm.TheVariants.{Addi, Slti, Sltiu, Xori, Ori, Andi}
use Rattle.processor.specs.declared.instr.Shift.{Shift}
use Rattle.processor.specs.declared.instr.Shift.TheVariants.{Slli, Srli, Srai}
use Rattle.processor.specs.declared.instr.Alu.{Alu}
use Rattle.processor.specs.declared.instr.Alu.TheVariants.{Add, Sub, Sll, Slt, Sltu, Xor, Srl, Sra, Or, And}
use Rattle.processor.specs.declared.instr.Prod.{Prod}
use Rattle.processor.specs.declared.instr.Prod.TheVariants.{Mul, Mulhu, Divu, Remu}
use Rattle.processor.specs.declared.instr.Instr.{Instr}
use Rattle.processor.specs.declared.instr.Instr.TheVariants.{Lui, Auipc, Jal, Jalr, Branch, Lw, Sw, OpImm, OpShift, Op, OpProd, Ecall}

-- six fields, from the lowest, as one word
abbrev pub word : ℕ → ℕ → ℕ → ℕ → ℕ → ℕ → ℕ
word op rd f3 r1 r2 f7 = ((((f7 * 32 + r2) * 32 + r1) * 8 + f3) * 32 + rd) * 128 + op

-- field 3 and field 7 of each operation
abbrev pub cond3 : Cond → ℕ
cond3 Beq = 0
cond3 Bne = 1
cond3 Blt = 4
cond3 Bge = 5
cond3 Bltu = 6
cond3 Bgeu = 7

abbrev pub imm3 : Imm → ℕ
imm3 Addi = 0
imm3 Slti = 2
imm3 Sltiu = 3
imm3 Xori = 4
imm3 Ori = 6
imm3 Andi = 7

abbrev pub shift3 : Shift → ℕ
shift3 Slli = 1
shift3 Srli = 5
shift3 Srai = 5

abbrev pub shift7 : Shift → ℕ
shift7 Slli = 0
shift7 Srli = 0
shift7 Srai = 32

abbrev pub alu3 : Alu → ℕ
alu3 Add = 0
alu3 Sub = 0
alu3 Sll = 1
alu3 Slt = 2
alu3 Sltu = 3
alu3 Xor = 4
alu3 Srl = 5
alu3 Sra = 5
alu3 Or = 6
alu3 And = 7

abbrev pub alu7 : Alu → ℕ
alu7 Add = 0
alu7 Sub = 32
alu7 Sll = 0
alu7 Slt = 0
alu7 Sltu = 0
alu7 Xor = 0
alu7 Srl = 0
alu7 Sra = 32
alu7 Or = 0
alu7 And = 0

abbrev pub prod3 : Prod → ℕ
prod3 Mul = 0
prod3 Mulhu = 3
prod3 Divu = 5
prod3 Remu = 7

abbrev pub encode : Instr → ℕ
encode (Lui rd n) = (n * 32 + rd) * 128 + 55
encode (Auipc rd n) = (n * 32 + rd) * 128 + 23
encode (Jal rd x) = word 111 rd (x / 4096 % 8) (x / 32768 % 32) (x / 2048 % 2 + x / 2 % 16 * 2) (x / 32 % 64 + x / 1048576 % 2 * 64)
encode (Jalr rd r1 x) = word 103 rd 0 r1 (x % 32) (x / 32 % 128)
encode (Branch c r1 r2 x) = word 99 (x / 2048 % 2 + x / 2 % 16 * 2) (cond3 c) r1 r2 (x / 32 % 64 + x / 4096 % 2 * 64)
encode (Lw rd r1 x) = word 3 rd 2 r1 (x % 32) (x / 32 % 128)
encode (Sw r1 r2 x) = word 35 (x % 32) 2 r1 r2 (x / 32 % 128)
encode (OpImm f rd r1 x) = word 19 rd (imm3 f) r1 (x % 32) (x / 32 % 128)
encode (OpShift f rd r1 n) = word 19 rd (shift3 f) r1 n (shift7 f)
encode (Op f rd r1 r2) = word 51 rd (alu3 f) r1 r2 (alu7 f)
encode (OpProd f rd r1 r2) = word 51 rd (prod3 f) r1 r2 1
encode Ecall = 115

-- a word that is a number with a sign between -h and h
abbrev pub Near : ℕ → ℕ → Type 0
Near h x = (x < 4294967296) × ((x + h) % 4294967296 < 2 * h)

abbrev pub Even : ℕ → Type 0
Even x = x % 2 ≡ 0

-- what has a word: registers below 32, numbers that fit
abbrev pub Wf : Instr → Type 0
Wf (Lui rd n) = (rd < 32) × (n < 1048576)
Wf (Auipc rd n) = (rd < 32) × (n < 1048576)
Wf (Jal rd x) = (rd < 32) × Near 1048576 x × Even x
Wf (Jalr rd r1 x) = (rd < 32) × (r1 < 32) × Near 2048 x
Wf (Branch c r1 r2 x) = (r1 < 32) × (r2 < 32) × Near 4096 x × Even x
Wf (Lw rd r1 x) = (rd < 32) × (r1 < 32) × Near 2048 x
Wf (Sw r1 r2 x) = (r1 < 32) × (r2 < 32) × Near 2048 x
Wf (OpImm f rd r1 x) = (rd < 32) × (r1 < 32) × Near 2048 x
Wf (OpShift f rd r1 n) = (rd < 32) × (r1 < 32) × (n < 32)
Wf (Op f rd r1 r2) = (rd < 32) × (r1 < 32) × (r2 < 32)
Wf (OpProd f rd r1 r2) = (rd < 32) × (r1 < 32) × (r2 < 32)
Wf Ecall = Unit {0}

-- what is worked out
abbrev pub by_cond : Cond → ℕ → ℕ → Bool
by_cond Beq x y = x == y
by_cond Bne x y = not (x == y)
by_cond Blt x y = less_s x y
by_cond Bge x y = not (less_s x y)
by_cond Bltu x y = nat_lt x y
by_cond Bgeu x y = not (nat_lt x y)

abbrev pub by_imm : Imm → ℕ → ℕ → ℕ
by_imm Addi x y = add x y
by_imm Slti x y = bit (less_s x y)
by_imm Sltiu x y = bit (nat_lt x y)
by_imm Xori x y = xor_w x y
by_imm Ori x y = or_w x y
by_imm Andi x y = and_w x y

abbrev pub by_shift : Shift → ℕ → ℕ → ℕ
by_shift Slli x n = shl x n
by_shift Srli x n = shr x n
by_shift Srai x n = sar x n

abbrev pub by_alu : Alu → ℕ → ℕ → ℕ
by_alu Add x y = add x y
by_alu Sub x y = sub x y
by_alu Sll x y = shl x (y % 32)
by_alu Slt x y = bit (less_s x y)
by_alu Sltu x y = bit (nat_lt x y)
by_alu Xor x y = xor_w x y
by_alu Srl x y = shr x (y % 32)
by_alu Sra x y = sar x (y % 32)
by_alu Or x y = or_w x y
by_alu And x y = and_w x y

abbrev pub by_prod : Prod → ℕ → ℕ → ℕ
by_prod Mul x y = mul x y
by_prod Mulhu x y = x * y / all
by_prod Divu x y = pick (y == 0) 4294967295 (x / y)
by_prod Remu x y = pick (y == 0) x (x % y)

abbrev pub exec : Instr → Machine → Next
exec (Lui rd n) m = put_reg m rd (n * 4096)
exec (Auipc rd n) m = put_reg m rd (add m.pc (n * 4096))
exec (Jal rd x) m = goes (at_pc (set_reg m rd (add m.pc 4)) (add m.pc x))
exec (Jalr rd r1 x) m = goes (at_pc (set_reg m rd (add m.pc 4)) (add (reg m r1) x / 2 * 2))
exec (Branch c r1 r2 x) m = goes (pick (by_cond c (reg m r1) (reg m r2)) (at_pc m (add m.pc x)) (on m))
exec (Lw rd r1 x) m = opt (load m (add (reg m r1) x)) faults (put_reg m rd)
exec (Sw r1 r2 x) m = stored m (add (reg m r1) x) (reg m r2)
exec (OpImm f rd r1 x) m = put_reg m rd (by_imm f (reg m r1) x)
exec (OpShift f rd r1 n) m = put_reg m rd (by_shift f (reg m r1) n)
exec (Op f rd r1 r2) m = put_reg m rd (by_alu f (reg m r1) (reg m r2))
exec (OpProd f rd r1 r2) m = put_reg m rd (by_prod f (reg m r1) (reg m r2))
exec Ecall m = envs m (reg m 17)

-- six numbers that are fields
pub record Fit (op rd f3 r1 r2 f7 : ℕ) : Type 0 where
  pub op_fits : op < 128
  pub rd_fits : rd < 32
  pub f3_fits : f3 < 8
  pub r1_fits : r1 < 32
  pub r2_fits : r2 < 32
  pub f7_fits : f7 < 128

-- a word that does what an instruction does, on any processor
abbrev pub Means : ℕ → Instr → Type 0
Means w i = (m : Machine) → does m w ≡ exec i m
