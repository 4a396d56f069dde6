-- The word of an instruction that fits is decoded as that instruction, so it does what the instruction does. It rests on the
-- fields of a word (Fields) and on what any word does (Undo).
use Rattle.std.proofs.Common.{◌≡◌, ℕ, ◌+◌, ◌*◌, ◌/◌, ◌%◌, ◌<◌, Bool, ◌&&◌, eqb, Some, None, Option, refl, ap, ◌∙◌, ap₂, arith, lit<}
use Rattle.language.specs.Syntax.{pick}
use Rattle.language.specs.Words.{signed}
use Rattle.processor.specs.Machine.{Machine, f_op, f_rd, f_3, f_1, f_2, f_7, imm_i_of, imm_s_of, imm_b_of, imm_j_of, does}
use Rattle.processor.specs.Decode.{branch_of, prod_of, alu_of, imm_of, ok_imm, ok_reg, decode, runs}
use Rattle.processor.specs.Instr.{Near, Even, encode, exec, Wf, cond3, imm3, shift3, shift7, alu3, alu7, prod3}
use Rattle.processor.specs.declared.instr.Cond.{Cond}
use Rattle.processor.specs.declared.instr.Cond.TheVariants.{Beq, Bne, Blt, Bge, Bltu, Bgeu}
use Rattle.processor.specs.declared.instr.Imm.{Imm}
use Rattle.processor.specs.declared.instr.Imm.TheVariants.{Addi, Slti, Sltiu, Xori, Ori, Andi}
use Rattle.processor.specs.declared.instr.Shift.{Shift}
use Rattle.processor.specs.declared.instr.Shift.TheVariants.{Slli, Srli, Srai}
use Rattle.processor.specs.declared.instr.Alu.{Alu}
use Rattle.processor.specs.declared.instr.Alu.TheVariants.{Add, Sub, Sll, Slt, Sltu, Xor, Srl, Sra, Or, And}
use Rattle.processor.specs.declared.instr.Prod.{Prod}
use Rattle.processor.specs.declared.instr.Prod.TheVariants.{Mul, Mulhu, Divu, Remu}
use Rattle.processor.specs.declared.instr.Instr.{Instr}
use Rattle.processor.specs.declared.instr.Instr.TheVariants.{Lui, Auipc, Jal, Jalr, Branch, Lw, Sw, OpImm, OpShift, Op, OpProd, Ecall}
use Rattle.processor.proofs.Undo.{does_decode}
use Rattle.processor.proofs.Fields.{Six, six, near_12, near_13, near_21, join-i, join-b, Parts, parts, join-j}

-- what `decode` looks at of a word
pub record Fld : Type 0 where
  pub op : ℕ
  pub rd : ℕ
  pub f3 : ℕ
  pub r1 : ℕ
  pub r2 : ℕ
  pub f7 : ℕ
  pub ii : ℕ
  pub is : ℕ
  pub ib : ℕ
  pub iu : ℕ
  pub ij : ℕ
  pub sys : Bool

abbrev pub split : ℕ → Fld
split w = record { op = f_op w; rd = f_rd w; f3 = f_3 w; r1 = f_1 w; r2 = f_2 w; f7 = f_7 w; ii = imm_i_of w; is = imm_s_of w; ib = imm_b_of w; iu = w / 4096; ij = imm_j_of w; sys = eqb w 115 }

abbrev pub read_as : Fld → Option Instr
read_as d = pick (eqb d.op 55) (Some (Lui d.rd d.iu))
    (pick (eqb d.op 23) (Some (Auipc d.rd d.iu))
    (pick (eqb d.op 111) (Some (Jal d.rd d.ij))
    (pick (eqb d.op 103 && eqb d.f3 0) (Some (Jalr d.rd d.r1 d.ii))
    (pick (eqb d.op 99) (branch_of d.f3 d.r1 d.r2 d.ib)
    (pick (eqb d.op 3 && eqb d.f3 2) (Some (Lw d.rd d.r1 d.ii))
    (pick (eqb d.op 35 && eqb d.f3 2) (Some (Sw d.r1 d.r2 d.is))
    (pick (eqb d.op 19 && ok_imm d.f3 d.f7) (Some (imm_of d.f3 (eqb d.f7 32) d.rd d.r1 d.ii))
    (pick (eqb d.op 51 && eqb d.f7 1) (prod_of d.f3 d.rd d.r1 d.r2)
    (pick (eqb d.op 51 && ok_reg d.f3 d.f7) (Some (Op (alu_of d.f3 (eqb d.f7 32)) d.rd d.r1 d.r2))
    (pick d.sys (Some Ecall) None))))))))))

-- below the six fields a form may know one of the numbers; all else stays as it is
abbrev with_six : ℕ → (op rd f3 r1 r2 f7 ii is ib ij : ℕ) → Fld
with_six w op rd f3 r1 r2 f7 ii is ib ij = record { op = op; rd = rd; f3 = f3; r1 = r1; r2 = r2; f7 = f7; ii = ii; is = is; ib = ib; iu = w / 4096; ij = ij; sys = eqb w 115 }

module _ (w op rd f3 r1 r2 f7 : ℕ) (s : Six w op rd f3 r1 r2 f7) where
  RForm : split w ≡ with_six w op rd f3 r1 r2 f7 (imm_i_of w) (imm_s_of w) (imm_b_of w) (imm_j_of w)
  RForm = λ i. with_six w (s.at_op i) (s.at_rd i) (s.at_3 i) (s.at_1 i) (s.at_2 i) (s.at_7 i) (imm_i_of w) (imm_s_of w) (imm_b_of w) (imm_j_of w)

  IForm : (x : ℕ) → imm_i_of w ≡ x → split w ≡ with_six w op rd f3 r1 r2 f7 x (imm_s_of w) (imm_b_of w) (imm_j_of w)
  IForm x e = λ i. with_six w (s.at_op i) (s.at_rd i) (s.at_3 i) (s.at_1 i) (s.at_2 i) (s.at_7 i) (e i) (imm_s_of w) (imm_b_of w) (imm_j_of w)

  SForm : (x : ℕ) → imm_s_of w ≡ x → split w ≡ with_six w op rd f3 r1 r2 f7 (imm_i_of w) x (imm_b_of w) (imm_j_of w)
  SForm x e = λ i. with_six w (s.at_op i) (s.at_rd i) (s.at_3 i) (s.at_1 i) (s.at_2 i) (s.at_7 i) (imm_i_of w) (e i) (imm_b_of w) (imm_j_of w)

  BForm : (x : ℕ) → imm_b_of w ≡ x → split w ≡ with_six w op rd f3 r1 r2 f7 (imm_i_of w) (imm_s_of w) x (imm_j_of w)
  BForm x e = λ i. with_six w (s.at_op i) (s.at_rd i) (s.at_3 i) (s.at_1 i) (s.at_2 i) (s.at_7 i) (imm_i_of w) (imm_s_of w) (e i) (imm_j_of w)

  JForm : (x : ℕ) → imm_j_of w ≡ x → split w ≡ with_six w op rd f3 r1 r2 f7 (imm_i_of w) (imm_s_of w) (imm_b_of w) x
  JForm x e = λ i. with_six w (s.at_op i) (s.at_rd i) (s.at_3 i) (s.at_1 i) (s.at_2 i) (s.at_7 i) (imm_i_of w) (imm_s_of w) (imm_b_of w) (e i)

UForm : (w op rd x : ℕ) → f_op w ≡ op → f_rd w ≡ rd → w / 4096 ≡ x → split w ≡ record { op = op; rd = rd; f3 = f_3 w; r1 = f_1 w; r2 = f_2 w; f7 = f_7 w; ii = imm_i_of w; is = imm_s_of w; ib = imm_b_of w; iu = x; ij = imm_j_of w; sys = eqb w 115 }
UForm w op rd x e1 e2 e3 = λ i. record { op = e1 i; rd = e2 i; f3 = f_3 w; r1 = f_1 w; r2 = f_2 w; f7 = f_7 w; ii = imm_i_of w; is = imm_s_of w; ib = imm_b_of w; iu = e3 i; ij = imm_j_of w; sys = eqb w 115 }

-- the numbers, where the fields are a number's parts
i_imm : (w op rd f3 r1 x : ℕ) → Six w op rd f3 r1 (x % 32) (x / 32 % 128) → Near 2048 x → imm_i_of w ≡ x
i_imm w op rd f3 r1 x s n = ap (signed 12) (s.at_i ∙ join-i x) ∙ near_12 x n

s_imm : (w op f3 r1 r2 x : ℕ) → Six w op (x % 32) f3 r1 r2 (x / 32 % 128) → Near 2048 x → imm_s_of w ≡ x
s_imm w op f3 r1 r2 x s n = ap₂ (λ (a b : ℕ). signed 12 (a * 32 + b)) s.at_7 s.at_rd ∙ ap (signed 12) (join-i x) ∙ near_12 x n

b_imm : (w op f3 r1 r2 x : ℕ) → Six w op (x / 2048 % 2 + x / 2 % 16 * 2) f3 r1 r2 (x / 32 % 64 + x / 4096 % 2 * 64) → Near 4096 x → Even x → imm_b_of w ≡ x
b_imm w op f3 r1 r2 x s n e = ap₂ (λ (a b : ℕ). signed 13 (a / 64 * 4096 + (b % 2 * 2048 + (a % 64 * 32 + b / 2 * 2)))) s.at_7 s.at_rd ∙ ap (signed 13) (join-b x e) ∙ near_13 x n

pub cond3-lt : (c : Cond) → cond3 c < 8
cond3-lt Beq = lit< tt
cond3-lt Bne = lit< tt
cond3-lt Blt = lit< tt
cond3-lt Bge = lit< tt
cond3-lt Bltu = lit< tt
cond3-lt Bgeu = lit< tt

pub imm3-lt : (f : Imm) → imm3 f < 8
imm3-lt Addi = lit< tt
imm3-lt Slti = lit< tt
imm3-lt Sltiu = lit< tt
imm3-lt Xori = lit< tt
imm3-lt Ori = lit< tt
imm3-lt Andi = lit< tt

pub shift3-lt : (f : Shift) → shift3 f < 8
shift3-lt Slli = lit< tt
shift3-lt Srli = lit< tt
shift3-lt Srai = lit< tt

pub alu3-lt : (f : Alu) → alu3 f < 8
alu3-lt Add = lit< tt
alu3-lt Sub = lit< tt
alu3-lt Sll = lit< tt
alu3-lt Slt = lit< tt
alu3-lt Sltu = lit< tt
alu3-lt Xor = lit< tt
alu3-lt Srl = lit< tt
alu3-lt Sra = lit< tt
alu3-lt Or = lit< tt
alu3-lt And = lit< tt

pub prod3-lt : (f : Prod) → prod3 f < 8
prod3-lt Mul = lit< tt
prod3-lt Mulhu = lit< tt
prod3-lt Divu = lit< tt
prod3-lt Remu = lit< tt

pub shift7-lt : (f : Shift) → shift7 f < 128
shift7-lt Slli = lit< tt
shift7-lt Srli = lit< tt
shift7-lt Srai = lit< tt

pub alu7-lt : (f : Alu) → alu7 f < 128
alu7-lt Add = lit< tt
alu7-lt Sub = lit< tt
alu7-lt Sll = lit< tt
alu7-lt Slt = lit< tt
alu7-lt Sltu = lit< tt
alu7-lt Xor = lit< tt
alu7-lt Srl = lit< tt
alu7-lt Sra = lit< tt
alu7-lt Or = lit< tt
alu7-lt And = lit< tt

-- with the fields known, the tests compute
module _ (w rd r1 r2 ii is ib ij : ℕ) where
  op_read : (f : Alu) → read_as (with_six w 51 rd (alu3 f) r1 r2 (alu7 f) ii is ib ij) ≡ Some (Op f rd r1 r2)
  op_read Add = refl
  op_read Sub = refl
  op_read Sll = refl
  op_read Slt = refl
  op_read Sltu = refl
  op_read Xor = refl
  op_read Srl = refl
  op_read Sra = refl
  op_read Or = refl
  op_read And = refl

  prod_read : (f : Prod) → read_as (with_six w 51 rd (prod3 f) r1 r2 1 ii is ib ij) ≡ Some (OpProd f rd r1 r2)
  prod_read Mul = refl
  prod_read Mulhu = refl
  prod_read Divu = refl
  prod_read Remu = refl

  imm_read : (f : Imm) (f7 : ℕ) → read_as (with_six w 19 rd (imm3 f) r1 r2 f7 ii is ib ij) ≡ Some (OpImm f rd r1 ii)
  imm_read Addi f7 = refl
  imm_read Slti f7 = refl
  imm_read Sltiu f7 = refl
  imm_read Xori f7 = refl
  imm_read Ori f7 = refl
  imm_read Andi f7 = refl

  branch_read : (c : Cond) (f7 : ℕ) → read_as (with_six w 99 rd (cond3 c) r1 r2 f7 ii is ib ij) ≡ Some (Branch c r1 r2 ib)
  branch_read Beq f7 = refl
  branch_read Bne f7 = refl
  branch_read Blt f7 = refl
  branch_read Bge f7 = refl
  branch_read Bltu f7 = refl
  branch_read Bgeu f7 = refl

  shift_read : (f : Shift) → read_as (with_six w 19 rd (shift3 f) r1 r2 (shift7 f) ii is ib ij) ≡ Some (OpShift f rd r1 (ii % 32))
  shift_read Slli = refl
  shift_read Srli = refl
  shift_read Srai = refl

shift_imm : (f : Shift) (n : ℕ) → n < 32 → signed 12 (shift7 f * 32 + n) % 32 ≡ n
shift_imm Slli n h = grind arith
shift_imm Srli n h = grind arith
shift_imm Srai n h = grind arith

j_imm : (w x : ℕ) → Parts w (x / 4096 % 8) (x / 32768 % 32) (x / 2048 % 2 + x / 2 % 16 * 2) (x / 32 % 64 + x / 1048576 % 2 * 64) → Near 1048576 x → Even x → imm_j_of w ≡ x
j_imm w x p n e = ap (signed 21) (join-j w x e p) ∙ near_21 x n

-- THE THEOREM: nobody has to look at fields again
pub decode-encode : (i : Instr) → Wf i → decode (encode i) ≡ Some i
decode-encode (Lui rd n) h = ap read_as (UForm ((n * 32 + rd) * 128 + 55) 55 rd n (omega arith) (omega arith) (omega arith))
decode-encode (Auipc rd n) h = ap read_as (UForm ((n * 32 + rd) * 128 + 23) 23 rd n (omega arith) (omega arith) (omega arith))
decode-encode (Jal rd x) h =
    let f3 = x / 4096 % 8 in let r1 = x / 32768 % 32 in let r2 = x / 2048 % 2 + x / 2 % 16 * 2 in let f7 = x / 32 % 64 + x / 1048576 % 2 * 64 in
    let h3 : f3 < 8 = omega arith in let h1 : r1 < 32 = omega arith in let h2 : r2 < 32 = omega arith in
    ap read_as (JForm _ 111 rd f3 r1 r2 f7 (six 111 rd f3 r1 r2 f7 (lit< tt) h.0 h3 h1 h2) x (j_imm _ x (parts 111 rd f3 r1 r2 f7 (lit< tt) h.0 h3 h1 h2) h.1 h.2))
decode-encode (Jalr rd r1 x) h =
    let s = six 103 rd 0 r1 (x % 32) (x / 32 % 128) (lit< tt) h.0 (lit< tt) h.1 (omega arith) in
    ap read_as (IForm _ _ _ _ _ _ _ s x (i_imm _ _ _ _ _ x s h.2))
decode-encode (Branch c r1 r2 x) h =
    let rd = x / 2048 % 2 + x / 2 % 16 * 2 in let f7 = x / 32 % 64 + x / 4096 % 2 * 64 in
    let hr : rd < 32 = omega arith in
    let s = six 99 rd (cond3 c) r1 r2 f7 (lit< tt) hr (cond3-lt c) h.0 h.1 in
    ap read_as (BForm _ _ _ _ _ _ _ s x (b_imm _ _ _ _ _ x s h.2 h.3)) ∙ (let w = encode (Branch c r1 r2 x) in branch_read w rd r1 r2 (imm_i_of w) (imm_s_of w) x (imm_j_of w) c f7)
decode-encode (Lw rd r1 x) h =
    let s = six 3 rd 2 r1 (x % 32) (x / 32 % 128) (lit< tt) h.0 (lit< tt) h.1 (omega arith) in
    ap read_as (IForm _ _ _ _ _ _ _ s x (i_imm _ _ _ _ _ x s h.2))
decode-encode (Sw r1 r2 x) h =
    let s = six 35 (x % 32) 2 r1 r2 (x / 32 % 128) (lit< tt) (omega arith) (lit< tt) h.0 h.1 in
    ap read_as (SForm _ _ _ _ _ _ _ s x (s_imm _ _ _ _ _ x s h.2))
decode-encode (OpImm f rd r1 x) h =
    let s = six 19 rd (imm3 f) r1 (x % 32) (x / 32 % 128) (lit< tt) h.0 (imm3-lt f) h.1 (omega arith) in
    ap read_as (IForm _ _ _ _ _ _ _ s x (i_imm _ _ _ _ _ x s h.2)) ∙ (let w = encode (OpImm f rd r1 x) in imm_read w rd r1 (x % 32) x (imm_s_of w) (imm_b_of w) (imm_j_of w) f (x / 32 % 128))
decode-encode (OpShift f rd r1 n) h =
    let s = six 19 rd (shift3 f) r1 n (shift7 f) (lit< tt) h.0 (shift3-lt f) h.1 h.2 in
    ap read_as (IForm _ _ _ _ _ _ _ s (signed 12 (shift7 f * 32 + n)) (ap (signed 12) s.at_i)) ∙ (let w = encode (OpShift f rd r1 n) in shift_read w rd r1 n (signed 12 (shift7 f * 32 + n)) (imm_s_of w) (imm_b_of w) (imm_j_of w) f) ∙ ap (λ (k : ℕ). Some (OpShift f rd r1 k)) (shift_imm f n h.2)
decode-encode (Op f rd r1 r2) h =
    ap read_as (RForm _ _ _ _ _ _ _ (six 51 rd (alu3 f) r1 r2 (alu7 f) (lit< tt) h.0 (alu3-lt f) h.1 h.2)) ∙ (let w = encode (Op f rd r1 r2) in op_read w rd r1 r2 (imm_i_of w) (imm_s_of w) (imm_b_of w) (imm_j_of w) f)
decode-encode (OpProd f rd r1 r2) h =
    ap read_as (RForm _ _ _ _ _ _ _ (six 51 rd (prod3 f) r1 r2 1 (lit< tt) h.0 (prod3-lt f) h.1 h.2)) ∙ (let w = encode (OpProd f rd r1 r2) in prod_read w rd r1 r2 (imm_i_of w) (imm_s_of w) (imm_b_of w) (imm_j_of w) f)
decode-encode Ecall h = refl

pub does-encode : (m : Machine) (i : Instr) → Wf i → does m (encode i) ≡ exec i m
does-encode m i h = does_decode m (encode i) ∙ ap (runs m) (decode-encode i h)
