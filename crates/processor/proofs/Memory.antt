-- Loads and stores, as the code makes them.
use Rattle.std.proofs.Common.{◌≡◌, ℕ, ◌/◌, ◌<◌, List, length, get_or, set, Some, None, Option, sym, ap, ◌∙◌, subst}
use Rattle.language.specs.Syntax.{opt, put}
use Rattle.language.specs.Words.{add}
use Rattle.processor.specs.Machine.{Next, goes, faults, put_reg, step, does}
use Rattle.processor.specs.Instr.{exec}
use Rattle.processor.specs.Promise.{machine, reg_of, load_of, put_cpu, at_cpu, Located}
use Rattle.processor.specs.declared.instr.Instr.{Instr}
use Rattle.processor.specs.declared.instr.Instr.TheVariants.{Lw, Sw}
use Rattle.processor.specs.declared.cpu.Cpu.{Cpu}
use Rattle.processor.specs.Decode.{decode, runs}
use Rattle.processor.proofs.Undo.{does_decode}
use Rattle.processor.proofs.Rows.{load_yes, load-no}

pub located_yes : (mem : List ℕ) (a k : ℕ) → Located (length mem) a (Some k) → load_of mem a ≡ mathlib.Core.Option.some (get_or mem k 0)
located_yes mem a k l = load_yes mem a l.0 (subst (λ (j : ℕ). j < length mem) l.1 l.2) ∙ ap (λ (j : ℕ). mathlib.Core.Option.some (get_or mem j 0)) (sym l.1)

module _ (ins outs mem : List ℕ) (c : Cpu) (r1 x y : ℕ) (e : y ≡ reg_of c.regs r1) where
  pub lw_some : (i : Instr) (c' : Cpu) (rd k : ℕ) → i ≡ Lw rd r1 x → Located (length mem) (add y x) (Some k) → c' ≡ put_cpu c rd (get_or mem k 0) → exec i (machine ins outs c mem) ≡ goes (machine ins outs c' mem)
  lw_some i c' rd k ei l ec =
      let m = machine ins outs c mem in
      ap (λ (j : Instr). exec j m) ei
      ∙ ap (λ (z : ℕ). opt (load_of mem (add z x)) faults (put_reg m rd)) (sym e)
      ∙ ap (λ (o : mathlib.Core.Option.Option ℕ). opt o faults (put_reg m rd)) (located_yes mem (add y x) k l)
      ∙ ap (λ (d : Cpu). goes (machine ins outs d mem)) (sym ec)

  pub lw_none : (i : Instr) (rd : ℕ) → i ≡ Lw rd r1 x → Located (length mem) (add y x) None → exec i (machine ins outs c mem) ≡ faults
  lw_none i rd ei l =
      let m = machine ins outs c mem in
      ap (λ (j : Instr). exec j m) ei
      ∙ ap (λ (z : ℕ). opt (load_of mem (add z x)) faults (put_reg m rd)) (sym e)
      ∙ ap (λ (o : mathlib.Core.Option.Option ℕ). opt o faults (put_reg m rd)) (load-no mem (add y x) l)

  pub sw_some : (i : Instr) (r2 k v : ℕ) → i ≡ Sw r1 r2 x → Located (length mem) (add y x) (Some k) → v ≡ reg_of c.regs r2 → exec i (machine ins outs c mem) ≡ goes (machine ins outs (at_cpu c (add c.pc 4)) (set mem k v))
  sw_some i r2 k v ei l ev =
      let m = machine ins outs c mem in
      let G : mathlib.Core.Option.Option ℕ → ℕ → Next = λ o a. opt o faults (λ old. goes (machine ins outs (at_cpu c (add c.pc 4)) (put mem (a / 4) (reg_of c.regs r2)))) in
      ap (λ (j : Instr). exec j m) ei
      ∙ ap (λ (z : ℕ). G (load_of mem (add z x)) (add z x)) (sym e)
      ∙ ap (λ (o : mathlib.Core.Option.Option ℕ). G o (add y x)) (located_yes mem (add y x) k l)
      ∙ ap (λ (j : ℕ). goes (machine ins outs (at_cpu c (add c.pc 4)) (put mem j (reg_of c.regs r2)))) (sym l.1)
      ∙ ap (λ (w : ℕ). goes (machine ins outs (at_cpu c (add c.pc 4)) (put mem k w))) (sym ev)

  pub sw_none : (i : Instr) (r2 : ℕ) → i ≡ Sw r1 r2 x → Located (length mem) (add y x) None → exec i (machine ins outs c mem) ≡ faults
  sw_none i r2 ei l =
      let m = machine ins outs c mem in
      let G : mathlib.Core.Option.Option ℕ → ℕ → Next = λ o a. opt o faults (λ old. goes (machine ins outs (at_cpu c (add c.pc 4)) (put mem (a / 4) (reg_of c.regs r2)))) in
      ap (λ (j : Instr). exec j m) ei
      ∙ ap (λ (z : ℕ). G (load_of mem (add z x)) (add z x)) (sym e)
      ∙ ap (λ (o : mathlib.Core.Option.Option ℕ). G o (add y x)) (load-no mem (add y x) l)

module _ (ins outs mem : List ℕ) (c : Cpu) where
  pub step-none : Located (length mem) c.pc None → step (machine ins outs c mem) ≡ faults
  step-none l = ap (λ (o : mathlib.Core.Option.Option ℕ). opt o faults (does (machine ins outs c mem))) (load-no mem c.pc l)

  pub step_is : (k : ℕ) (r : Option Instr) → Located (length mem) c.pc (Some k) → r ≡ decode (get_or mem k 0) → step (machine ins outs c mem) ≡ runs (machine ins outs c mem) r
  step_is k r l e =
      let m = machine ins outs c mem in
      ap (λ (o : mathlib.Core.Option.Option ℕ). opt o faults (does m)) (located_yes mem c.pc k l) ∙ does_decode m (get_or mem k 0) ∙ ap (runs m) (sym e)
