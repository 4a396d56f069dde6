-- A word does what the instruction that it is does.
use Rattle.std.proofs.Common.{◌≡◌, ◌≢◌, ℕ, ◌+◌, ◌*◌, ◌/◌, ◌%◌, ◌<◌, Bool, true, false, ◌&&◌, T, eqb, Some, None, Option, Ok, Err, Result, sym, refl, ap, ◌∙◌, subst, arith, eqb→eq, ne_eqb}
use Rattle.std.specs.Result.{result_ok}
use Rattle.std.proofs.lemmas.Bool.Decides.{nat_tests}
use Rattle.language.specs.Syntax.{pick, opt}
use Rattle.language.specs.Words.{add, shr}
use Rattle.processor.specs.Machine.{Machine, Next, goes, faults, reg, at_pc, on, put_reg, f_op, f_rd, f_3, f_1, f_2, f_7, imm_i_of, imm_b_of, does, branch, muls, alu, sar, ok_i, ok_r}
use Rattle.processor.specs.Instr.{exec, cond3, imm3, shift3, shift7, alu3, alu7, prod3}
use Rattle.processor.specs.Decode.{branch_of, prod_of, alu_of, imm_of, ok_imm, ok_reg, decode, runs, ReadsBack, Known}
use Rattle.processor.specs.declared.instr.Cond.{Cond}
use Rattle.processor.specs.declared.instr.Cond.TheVariants.{Beq, Bne, Blt, Bge, Bltu, Bgeu}
use Rattle.processor.specs.declared.instr.Imm.{Imm}
use Rattle.processor.specs.declared.instr.Imm.TheVariants.{Addi, Slti, Sltiu, Xori, Ori, Andi}
use Rattle.processor.specs.declared.instr.Alu.{Alu}
use Rattle.processor.specs.declared.instr.Alu.TheVariants.{Add, Sub, Sll, Slt, Sltu, Xor, Srl, Sra, Or, And}
use Rattle.processor.specs.declared.instr.Shift.{Shift}
use Rattle.processor.specs.declared.instr.Shift.TheVariants.{Slli, Srli, Srai}
use Rattle.processor.specs.declared.instr.Prod.{Prod}
use Rattle.processor.specs.declared.instr.Prod.TheVariants.{Mul, Mulhu, Divu, Remu}
use Rattle.processor.specs.declared.instr.Instr.{Instr}
use Rattle.processor.specs.declared.instr.Instr.TheVariants.{OpShift, Op, OpProd}

-- one test, on both sides
by : {A D : Type 0} (G : A → Next) (K : D → Next) (b : Bool) {u v : A} {p q : D} → G u ≡ K p → G v ≡ K q → G (pick b u v) ≡ K (pick b p q)
by G K true e1 e2 = e1
by G K false e1 e2 = e2

-- where the first side needs the test
by_if : {A D : Type 0} (G : A → Next) (K : D → Next) (b : Bool) {u v : A} {p q : D} → (b ≡ true → G u ≡ K p) → G v ≡ K q → G (pick b u v) ≡ K (pick b p q)
by_if G K true e1 e2 = e1 refl
by_if G K false e1 e2 = e2

if_0 : {A : Type 0} (f : ℕ) (o : Bool) (u v : A) → eqb f 0 ≡ true → pick (eqb f 5 && o) u v ≡ v
if_0 f o u v e = let z : f ≡ 0 = eqb→eq f 0 (subst T (sym e) tt) in ap (λ (g : ℕ). pick (eqb g 5 && o) u v) z

module _ (m : Machine) where
  branch_does : (f r1 r2 x : ℕ) → opt (branch f (reg m r1) (reg m r2)) faults (λ b. goes (pick b (at_pc m (add m.pc x)) (on m))) ≡ runs m (branch_of f r1 r2 x)
  branch_does f r1 r2 x =
      let G = λ (o : mathlib.Core.Option.Option Bool). opt o faults (λ b. goes (pick b (at_pc m (add m.pc x)) (on m))) in
      let K = runs m in
      by G K (eqb f 0) refl (by G K (eqb f 1) refl (by G K (eqb f 4) refl (by G K (eqb f 5) refl (by G K (eqb f 6) refl (by G K (eqb f 7) refl refl)))))

  prod_does : (f rd r1 r2 : ℕ) → opt (muls f (reg m r1) (reg m r2)) faults (put_reg m rd) ≡ runs m (prod_of f rd r1 r2)
  prod_does f rd r1 r2 =
      let G = λ (o : mathlib.Core.Option.Option ℕ). opt o faults (put_reg m rd) in
      let K = runs m in
      by G K (eqb f 0) refl (by G K (eqb f 3) refl (by G K (eqb f 5) refl (by G K (eqb f 7) refl refl)))

  alu_does : (f : ℕ) (o : Bool) (rd r1 r2 : ℕ) → put_reg m rd (alu f o (reg m r1) (reg m r2)) ≡ exec (Op (alu_of f o) rd r1 r2) m
  alu_does f o rd r1 r2 =
      let G = put_reg m rd in
      let K = λ (a : Alu). exec (Op a rd r1 r2) m in
      by G K (eqb f 0) (by G K o refl refl) (by G K (eqb f 1) refl (by G K (eqb f 2) refl (by G K (eqb f 3) refl (by G K (eqb f 4) refl (by G K (eqb f 5) (by G K o refl refl) (by G K (eqb f 6) refl refl))))))

  imm_does : (f : ℕ) (o : Bool) (rd r1 x : ℕ) → put_reg m rd (alu f (eqb f 5 && o) (reg m r1) x) ≡ exec (imm_of f o rd r1 x) m
  imm_does f o rd r1 x =
      let G = put_reg m rd in
      let K = λ (i : Instr). exec i m in
      let J = λ (a : Shift). exec (OpShift a rd r1 (x % 32)) m in
      by_if G K (eqb f 0) (λ e. ap G (if_0 f o _ _ e)) (by G K (eqb f 1) refl (by G K (eqb f 2) refl (by G K (eqb f 3) refl (by G K (eqb f 4) refl (by_if G K (eqb f 5) (λ e. ap (λ (b : Bool). G (pick (b && o) (sar (reg m r1) (x % 32)) (shr (reg m r1) (x % 32)))) e ∙ by G J o refl refl) (by G K (eqb f 6) refl refl))))))

  -- THE THEOREM, the other way: what any word does
  pub does_decode : (w : ℕ) → does m w ≡ runs m (decode w)
  does_decode w =
      let G = λ (n : Next). n in
      let K = runs m in
      by G K (eqb (f_op w) 55) refl
      (by G K (eqb (f_op w) 23) refl
      (by G K (eqb (f_op w) 111) refl
      (by G K (eqb (f_op w) 103 && eqb (f_3 w) 0) refl
      (by G K (eqb (f_op w) 99) (branch_does (f_3 w) (f_1 w) (f_2 w) (imm_b_of w))
      (by G K (eqb (f_op w) 3 && eqb (f_3 w) 2) refl
      (by G K (eqb (f_op w) 35 && eqb (f_3 w) 2) refl
      (by G K (eqb (f_op w) 19 && ok_i w) (imm_does (f_3 w) (eqb (f_7 w) 32) (f_rd w) (f_1 w) (imm_i_of w))
      (by G K (eqb (f_op w) 51 && eqb (f_7 w) 1) (prod_does (f_3 w) (f_rd w) (f_1 w) (f_2 w))
      (by G K (eqb (f_op w) 51 && ok_r w) (alu_does (f_3 w) (eqb (f_7 w) 32) (f_rd w) (f_1 w) (f_2 w))
      (by G K (eqb w 115) refl refl))))))))))

-- bits that nothing has are read back as nothing
pub none_read : {A E : Type 0} (bits : A → ℕ) (n : ℕ) (r : Result A E) → ReadsBack bits n r → None ≡ result_ok r → (x : A) → bits x ≢ n
none_read bits n (Ok x) h e = absurd (cc e)
none_read bits n (Err e) h z = h

pub some_read : {A E : Type 0} (bits : A → ℕ) (n : ℕ) (r : Result A E) (x : A) → ReadsBack bits n r → Some x ≡ result_ok r → bits x ≡ n
some_read bits n (Ok y) x h e = let s : x ≡ y = cc e in ap bits s ∙ h
some_read bits n (Err y) x h e = absurd (cc e)

-- a test of bits that are others
other : {A : Type 0} (f n : ℕ) {v p : A} (u : A) → n ≢ f → v ≡ p → pick (eqb f n) u v ≡ p
other f n u h e = rw (ne_eqb f n (λ z. h (sym z))) e

branch_free : (f r1 r2 x : ℕ) → ((c : Cond) → cond3 c ≢ f) → branch_of f r1 r2 x ≡ None
branch_free f r1 r2 x h = other f 0 _ (h Beq) (other f 1 _ (h Bne) (other f 4 _ (h Blt) (other f 5 _ (h Bge) (other f 6 _ (h Bltu) (other f 7 _ (h Bgeu) refl)))))

prod_free : (f rd r1 r2 : ℕ) → ((p : Prod) → prod3 p ≢ f) → prod_of f rd r1 r2 ≡ None
prod_free f rd r1 r2 h = other f 0 _ (h Mul) (other f 3 _ (h Mulhu) (other f 5 _ (h Divu) (other f 7 _ (h Remu) refl)))

imm_free : (f3 f7 : ℕ) → f3 < 8 → ((f : Imm) → imm3 f ≢ f3) → ((f : Shift) → shift7 f * 8 + shift3 f ≢ f3 + f7 * 8) → ok_imm f3 f7 ≡ false
imm_free f3 f7 lt h k =
    let a0 = h Addi in let a1 = h Slti in let a2 = h Sltiu in let a3 = h Xori in let a4 = h Ori in let a5 = h Andi in
    let b0 = k Slli in let b1 = k Srli in let b2 = k Srai in
    grind (arith, nat_tests)

reg_free : (f3 f7 : ℕ) → f3 < 8 → ((f : Alu) → alu7 f * 8 + alu3 f ≢ f3 + f7 * 8) → ok_reg f3 f7 ≡ false
reg_free f3 f7 lt k =
    let a0 = k Add in let a1 = k Sub in let a2 = k Sll in let a3 = k Slt in let a4 = k Sltu in let a5 = k Xor in let a6 = k Srl in let a7 = k Sra in let a8 = k Or in let a9 = k And in
    grind (arith, nat_tests)

-- an operation's two fields, from its bits, and what they are read as
reg_fields : (f : Alu) (f3 f7 : ℕ) → f3 < 8 → alu7 f * 8 + alu3 f ≡ f3 + f7 * 8 → (f3 ≡ alu3 f) × (f7 ≡ alu7 f)
reg_fields Add f3 f7 h e = (omega arith, omega arith)
reg_fields Sub f3 f7 h e = (omega arith, omega arith)
reg_fields Sll f3 f7 h e = (omega arith, omega arith)
reg_fields Slt f3 f7 h e = (omega arith, omega arith)
reg_fields Sltu f3 f7 h e = (omega arith, omega arith)
reg_fields Xor f3 f7 h e = (omega arith, omega arith)
reg_fields Srl f3 f7 h e = (omega arith, omega arith)
reg_fields Sra f3 f7 h e = (omega arith, omega arith)
reg_fields Or f3 f7 h e = (omega arith, omega arith)
reg_fields And f3 f7 h e = (omega arith, omega arith)

reg_read : (f : Alu) → (eqb (alu7 f) 1 ≡ false) × (ok_reg (alu3 f) (alu7 f) ≡ true) × (alu_of (alu3 f) (eqb (alu7 f) 32) ≡ f)
reg_read Add = (refl, refl, refl)
reg_read Sub = (refl, refl, refl)
reg_read Sll = (refl, refl, refl)
reg_read Slt = (refl, refl, refl)
reg_read Sltu = (refl, refl, refl)
reg_read Xor = (refl, refl, refl)
reg_read Srl = (refl, refl, refl)
reg_read Sra = (refl, refl, refl)
reg_read Or = (refl, refl, refl)
reg_read And = (refl, refl, refl)

prod_read : (f : Prod) (rd r1 r2 : ℕ) → prod_of (prod3 f) rd r1 r2 ≡ Some (OpProd f rd r1 r2)
prod_read Mul rd r1 r2 = refl
prod_read Mulhu rd r1 r2 = refl
prod_read Divu rd r1 r2 = refl
prod_read Remu rd r1 r2 = refl

shift_fields : (f : Shift) (f3 f7 : ℕ) → f3 < 8 → shift7 f * 8 + shift3 f ≡ f3 + f7 * 8 → (f3 ≡ shift3 f) × (f7 ≡ shift7 f)
shift_fields Slli f3 f7 h e = (omega arith, omega arith)
shift_fields Srli f3 f7 h e = (omega arith, omega arith)
shift_fields Srai f3 f7 h e = (omega arith, omega arith)

shift_read : (f : Shift) (rd r1 x : ℕ) → (ok_imm (shift3 f) (shift7 f) ≡ true) × (imm_of (shift3 f) (eqb (shift7 f) 32) rd r1 x ≡ OpShift f rd r1 (x % 32))
shift_read Slli rd r1 x = (refl, refl)
shift_read Srli rd r1 x = (refl, refl)
shift_read Srai rd r1 x = (refl, refl)

-- the number of a shift is where a second register would be
shift_by : (w : ℕ) → imm_i_of w % 32 ≡ f_2 w
shift_by w = grind arith

pub nothing : (o d : Option Instr) → o ≡ None → None ≡ d → (o ≡ d) × Known o
nothing o d e h = (e ∙ h, rw e tt)

-- the arms of the code that end in bits that are kept free, over plain numbers
module _ (w p f3 : ℕ) (e : p ≡ w / 1 % 128) (e3 : f3 ≡ f_3 w) where
  not_call : p ≢ 115 → eqb w 115 ≡ false
  not_call h = ne_eqb w 115 (λ z. h (omega arith))

  pub branch_none : p ≡ 99 → ((c : Cond) → cond3 c ≢ f3) → None ≡ decode w
  branch_none ep h =
      let o : f_op w ≡ 99 = omega arith in
      rw o (sym (branch_free (f_3 w) (f_1 w) (f_2 w) (imm_b_of w) (λ c z. h c (z ∙ sym e3))))

  pub imm_none : p ≡ 19 → ((f : Imm) → imm3 f ≢ f3) → ((f : Shift) → shift7 f * 8 + shift3 f ≢ f3 + f_7 w * 8) → None ≡ decode w
  imm_none ep h k =
      let o : f_op w ≡ 19 = omega arith in
      let free = imm_free (f_3 w) (f_7 w) (omega arith) (λ f z. h f (z ∙ sym e3)) (λ f z. k f (z ∙ ap (λ (n : ℕ). n + f_7 w * 8) (sym e3))) in
      rw (o, free, not_call (omega arith))

  pub prod_none : p ≡ 51 → f_7 w ≡ 1 → ((f : Prod) → 8 + prod3 f ≢ f3 + f_7 w * 8) → None ≡ decode w
  prod_none ep e7 h =
      let o : f_op w ≡ 51 = omega arith in
      rw (o, e7) (sym (prod_free (f_3 w) (f_rd w) (f_1 w) (f_2 w) (λ f z. h f (omega arith))))

  pub reg_none : p ≡ 51 → f_7 w ≢ 1 → ((f : Alu) → alu7 f * 8 + alu3 f ≢ f3 + f_7 w * 8) → None ≡ decode w
  reg_none ep n7 k =
      let o : f_op w ≡ 51 = omega arith in
      let free = reg_free (f_3 w) (f_7 w) (omega arith) (λ f z. k f (z ∙ ap (λ (n : ℕ). n + f_7 w * 8) (sym e3))) in
      rw (o, ne_eqb (f_7 w) 1 n7, free, not_call (omega arith))

  pub reg_some : (rd r1 r2 : ℕ) (f : Alu) → p ≡ 51 → alu7 f * 8 + alu3 f ≡ f3 + f_7 w * 8 → rd ≡ f_rd w → r1 ≡ f_1 w → r2 ≡ f_2 w → Some (Op f rd r1 r2) ≡ decode w
  reg_some rd r1 r2 f ep ef ed e1 e2 =
      let o : f_op w ≡ 51 = omega arith in
      let t = reg_fields f (f_3 w) (f_7 w) (omega arith) (ef ∙ ap (λ (n : ℕ). n + f_7 w * 8) e3) in
      let r = reg_read f in
      rw (ed, e1, e2, o, t.0, t.1, r.0, r.1, r.2)

  pub prod_some : (rd r1 r2 : ℕ) (f : Prod) → p ≡ 51 → f_7 w ≡ 1 → 8 + prod3 f ≡ f3 + f_7 w * 8 → rd ≡ f_rd w → r1 ≡ f_1 w → r2 ≡ f_2 w → Some (OpProd f rd r1 r2) ≡ decode w
  prod_some rd r1 r2 f ep e7 ef ed e1 e2 =
      let o : f_op w ≡ 51 = omega arith in
      let t3 : f_3 w ≡ prod3 f = omega arith in
      rw (ed, e1, e2, o, e7, t3) (sym (prod_read f (f_rd w) (f_1 w) (f_2 w)))

  pub shift_some : (rd r1 n : ℕ) (f : Shift) → p ≡ 19 → shift7 f * 8 + shift3 f ≡ f3 + f_7 w * 8 → rd ≡ f_rd w → r1 ≡ f_1 w → n ≡ f_2 w → Some (OpShift f rd r1 n) ≡ decode w
  shift_some rd r1 n f ep ef ed e1 en =
      let o : f_op w ≡ 19 = omega arith in
      let t = shift_fields f (f_3 w) (f_7 w) (omega arith) (ef ∙ ap (λ (n : ℕ). n + f_7 w * 8) e3) in
      let r = shift_read f (f_rd w) (f_1 w) (imm_i_of w) in
      rw (ed, e1, en, o, t.0, t.1, r.0, r.1, shift_by w)
