-- Which instruction a word is, in the order in which the processor looks.
use Rattle.std.specs.Prelude.{◌≡◌, ◌≢◌, ℕ, ◌/◌, ◌%◌, ◌<◌, Bool, true, ◌&&◌, ◌||◌, Some, None, Option, Result, MatchResult, ◌==◌}
use Rattle.language.specs.Syntax.{pick}
use Rattle.processor.specs.Machine.{Machine, Next, faults, f_op, f_rd, f_3, f_1, f_2, f_7, imm_i_of, imm_s_of, imm_b_of, imm_j_of}
use Rattle.processor.specs.Instr.{exec}
use Rattle.processor.specs.declared.instr.Cond.TheVariants.{Beq, Bne, Blt, Bge, Bltu, Bgeu}
use Rattle.processor.specs.declared.instr.Imm.TheVariants.{Addi, Slti, Sltiu, Xori, Ori, Andi}
use Rattle.processor.specs.declared.instr.Shift.TheVariants.{Slli, Srli, Srai}
use Rattle.processor.specs.declared.instr.Alu.{Alu}
use Rattle.processor.specs.declared.instr.Alu.TheVariants.{Add, Sub, Sll, Slt, Sltu, Xor, Srl, Sra, Or, And}
use Rattle.processor.specs.declared.instr.Prod.TheVariants.{Mul, Mulhu, Divu, Remu}
use Rattle.processor.specs.declared.instr.Instr.{Instr}
use Rattle.processor.specs.declared.instr.Instr.TheVariants.{Lui, Auipc, Jal, Jalr, Branch, Lw, Sw, OpImm, OpShift, Op, OpProd, Ecall}

abbrev pub branch_of : ℕ → ℕ → ℕ → ℕ → Option Instr
branch_of f r1 r2 x = pick (f == 0) (Some (Branch Beq r1 r2 x)) (pick (f == 1) (Some (Branch Bne r1 r2 x)) (pick (f == 4) (Some (Branch Blt r1 r2 x)) (pick (f == 5) (Some (Branch Bge r1 r2 x)) (pick (f == 6) (Some (Branch Bltu r1 r2 x)) (pick (f == 7) (Some (Branch Bgeu r1 r2 x)) None)))))

abbrev pub prod_of : ℕ → ℕ → ℕ → ℕ → Option Instr
prod_of f rd r1 r2 = pick (f == 0) (Some (OpProd Mul rd r1 r2)) (pick (f == 3) (Some (OpProd Mulhu rd r1 r2)) (pick (f == 5) (Some (OpProd Divu rd r1 r2)) (pick (f == 7) (Some (OpProd Remu rd r1 r2)) None)))

abbrev pub alu_of : ℕ → Bool → Alu
alu_of f other = pick (f == 0) (pick other Sub Add) (pick (f == 1) Sll (pick (f == 2) Slt (pick (f == 3) Sltu (pick (f == 4) Xor (pick (f == 5) (pick other Sra Srl) (pick (f == 6) Or And))))))

abbrev pub imm_of : ℕ → Bool → ℕ → ℕ → ℕ → Instr
imm_of f other rd r1 x = pick (f == 0) (OpImm Addi rd r1 x) (pick (f == 1) (OpShift Slli rd r1 (x % 32)) (pick (f == 2) (OpImm Slti rd r1 x) (pick (f == 3) (OpImm Sltiu rd r1 x) (pick (f == 4) (OpImm Xori rd r1 x) (pick (f == 5) (OpShift (pick other Srai Srli) rd r1 (x % 32)) (pick (f == 6) (OpImm Ori rd r1 x) (OpImm Andi rd r1 x)))))))

abbrev pub ok_imm : ℕ → ℕ → Bool
ok_imm f3 f7 = pick (f3 == 1) (f7 == 0) (pick (f3 == 5) (f7 == 0 || f7 == 32) true)

abbrev pub ok_reg : ℕ → ℕ → Bool
ok_reg f3 f7 = f7 == 0 || (f7 == 32 && (f3 == 0 || f3 == 5))

-- by the lowest seven bits
abbrev pub decode_op : ℕ → ℕ → Option Instr
decode_op op w = pick (op == 55) (Some (Lui (f_rd w) (w / 4096)))
    (pick (op == 23) (Some (Auipc (f_rd w) (w / 4096)))
    (pick (op == 111) (Some (Jal (f_rd w) (imm_j_of w)))
    (pick (op == 103 && f_3 w == 0) (Some (Jalr (f_rd w) (f_1 w) (imm_i_of w)))
    (pick (op == 99) (branch_of (f_3 w) (f_1 w) (f_2 w) (imm_b_of w))
    (pick (op == 3 && f_3 w == 2) (Some (Lw (f_rd w) (f_1 w) (imm_i_of w)))
    (pick (op == 35 && f_3 w == 2) (Some (Sw (f_1 w) (f_2 w) (imm_s_of w)))
    (pick (op == 19 && ok_imm (f_3 w) (f_7 w)) (Some (imm_of (f_3 w) (f_7 w == 32) (f_rd w) (f_1 w) (imm_i_of w)))
    (pick (op == 51 && f_7 w == 1) (prod_of (f_3 w) (f_rd w) (f_1 w) (f_2 w))
    (pick (op == 51 && ok_reg (f_3 w) (f_7 w)) (Some (Op (alu_of (f_3 w) (f_7 w == 32)) (f_rd w) (f_1 w) (f_2 w)))
    (pick (w == 115) (Some Ecall) None))))))))))

abbrev pub decode : ℕ → Option Instr
decode w = decode_op (f_op w) w

-- what an instruction does, if there is one
abbrev pub runs : Machine → Option Instr → Next
runs m None = faults
runs m (Some i) = exec i m

-- registers that there are
abbrev pub Regs : Instr → Type 0
Regs (Lui rd n) = (rd < 32) × (n < 1048576)
Regs (Auipc rd n) = (rd < 32) × (n < 1048576)
Regs (Jal rd x) = rd < 32
Regs (Jalr rd r1 x) = (rd < 32) × (r1 < 32)
Regs (Branch c r1 r2 x) = (r1 < 32) × (r2 < 32)
Regs (Lw rd r1 x) = (rd < 32) × (r1 < 32)
Regs (Sw r1 r2 x) = (r1 < 32) × (r2 < 32)
Regs (OpImm f rd r1 x) = (rd < 32) × (r1 < 32)
Regs (OpShift f rd r1 n) = (rd < 32) × (r1 < 32) × (n < 32)
Regs (Op f rd r1 r2) = (rd < 32) × (r1 < 32) × (r2 < 32)
Regs (OpProd f rd r1 r2) = (rd < 32) × (r1 < 32) × (r2 < 32)
Regs Ecall = Unit {0}

abbrev pub Known : Option Instr → Type 0
Known None = Unit {0}
Known (Some i) = Regs i

-- what has these bits, or that nothing has them
abbrev pub ReadsBack : {A E : Type 0} → (A → ℕ) → ℕ → Result A E → Type 0
ReadsBack bits n r = MatchResult r (λ x. bits x ≡ n) (λ _. (x : _) → bits x ≢ n)
