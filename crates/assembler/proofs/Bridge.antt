-- The code's view of a step, by tables and 32-bit numbers, is that of the lowering.
use Rattle.std.proofs.Common.{◌≡◌, ℕ, suc, ◌+◌, ◌-◌, ◌*◌, ◌%◌, true, not, List, [], ◌∷◌, ◌++◌, sym, refl, ap, ◌∙◌, ap₂, arith}
use mathlib.Core.Bool.{false≢true}
use Rattle.language.specs.Words.{all}
use Rattle.steps.specs.Steps.{Step, s_num, s_copy, s_bin, s_un, s_flag, s_getw, s_setw, s_jump, s_jz, s_call, s_table, s_out, s_ret, s_in, s_idx, s_put, s_len, MFn, MProg}
use Rattle.steps.specs.Fits.{StepFits}
use Rattle.processor.specs.declared.instr.Cond.TheVariants.{Bgeu}
use Rattle.processor.specs.declared.instr.Imm.TheVariants.{Addi}
use Rattle.processor.specs.declared.instr.Alu.TheVariants.{Sub}
use Rattle.processor.specs.declared.instr.Instr.{Instr}
use Rattle.processor.specs.declared.instr.Instr.TheVariants.{Lui, Branch, Sw, OpImm, Op, Ecall}
use Rattle.lower.specs.Code.{rel, l_lw, l_sw, l_num, l_bnz, l_j, l_jal, l_ret, l_upr, l_lwr, l_swr}
use Rattle.lower.specs.Lower.{lower, loads, stores, number, near_floor, low, top, area, plens, lens, live_of, data_size, nought_words, word_no, prologue, entry_in}
use Rattle.lower.specs.Core.{core_step}
use Rattle.lower.proofs.Lists.{nth_low}
use Rattle.assembler.specs.declared.frame.Frame.{Frame}
use Rattle.assembler.specs.declared.function.Function.{Function}
use Rattle.assembler.specs.Emission.{reals}
use Rattle.assembler.specs.Frames.{bare, routine, entry_at, step_place}
use Rattle.assembler.specs.Tables.{Framed, Head}
use Rattle.assembler.proofs.Putting.{reals-append}
use Rattle.assembler.proofs.Rows.{stores-any}

word_at : (m : MProg) (w i : ℕ) → m.arrays ≡ [] → w ≡ m.words → word_no (bare w) i ≡ word_no m i
word_at m w i e h =
    let a : 0 ≡ data_size m = ap (λ cs. area (plens (live_of m) (lens cs))) (sym e) in
    let b : w + 0 ≡ nought_words m = ap₂ (λ x cs. x + area (plens (λ j. not (live_of m j)) (lens cs))) h (sym e) in
    ap₂ (λ (d n : ℕ). (all - 4 * ((d + n) - (d + i))) % all) a b

pub lower-same : {F : Frame} {m : MProg} {f : MFn} {at : ℕ → ℕ} → Framed F m f at → (p : ℕ) (s : Step) → core_step s ≡ true → StepFits m f s → lower (entry_at F) (step_place F) (bare F.words) (routine F.function) p s ≡ lower (entry_in m) at m f p s
lower-same {F} {m} {f} {at} h p (s_num d n) c k = refl
lower-same {F} {m} {f} {at} h p (s_copy d a) c k = refl
lower-same {F} {m} {f} {at} h p (s_bin o d a b) c k = refl
lower-same {F} {m} {f} {at} h p (s_un o d a) c k = refl
lower-same {F} {m} {f} {at} h p (s_flag d a) c k = refl
lower-same {F} {m} {f} {at} h p (s_getw d i) c k = ap (λ n. near_floor 5 n ++ (l_lwr 6 5 (low n) ∷ l_sw 6 (suc d) ∷ [])) (word_at m F.words i h.no_arrays h.words)
lower-same {F} {m} {f} {at} h p (s_setw i a) c k = ap (λ n. near_floor 5 n ++ (l_lw 6 (suc a) ∷ l_swr 6 5 (low n) ∷ [])) (word_at m F.words i h.no_arrays h.words)
lower-same {F} {m} {f} {at} h p (s_jump t) c k = ap (λ x. l_j x ∷ []) (h.steps t k)
lower-same {F} {m} {f} {at} h p (s_jz a t) c k = ap (λ x. l_lw 5 (suc a) ∷ l_bnz 5 (suc (suc (suc p))) ∷ l_j x ∷ []) (h.steps t k.1)
lower-same {F} {m} {f} {at} h p (s_call d g k n os) c fits =
    let (_, _, _, takes) = fits in
    let (H, is, _, _, some) = takes in
    ap (λ x. loads 10 k n ++ (l_jal x ∷ l_sw 10 (suc d) ∷ [])) (h.calls g some (nth_low m.funs g H is))
lower-same {F} {m} {f} {at} h p (s_table d i t k n os) c fits = absurd (false≢true c)
lower-same {F} {m} {f} {at} h p (s_out a) c k = refl
lower-same {F} {m} {f} {at} h p (s_ret a) c k = ap (λ x. l_lw 10 (suc a) ∷ l_lw 1 0 ∷ (number 6 (4 * suc x) ++ (l_upr 6 ∷ l_ret ∷ []))) h.places
lower-same {F} {m} {f} {at} h p (s_in d) c k = absurd (false≢true c)
lower-same {F} {m} {f} {at} h p (s_idx d o i) c k = absurd (false≢true c)
lower-same {F} {m} {f} {at} h p (s_put w o i a) c k = absurd (false≢true c)
lower-same {F} {m} {f} {at} h p (s_len d o) c k = absurd (false≢true c)

-- a function's beginning, wherever it stands
tail-any : (p r n v : ℕ) → reals p (stores (λ j. 10 + j) 0 n ++ (l_num 5 0 ∷ stores (λ j. 5) n v)) ≡ reals r (stores (λ j. 10 + j) 0 n ++ (l_num 5 0 ∷ stores (λ j. 5) n v))
tail-any p r n v =
    reals-append p (stores (λ j. 10 + j) 0 n) (l_num 5 0 ∷ stores (λ j. 5) n v)
    ∙ (ap₂ (λ (x y : List Instr). x ++ (OpImm Addi 5 0 0 ∷ y)) (stores-any p r (λ j. 10 + j) 0 n) (stores-any _ _ (λ j. 5) n v)
    ∙ sym (reals-append r (stores (λ j. 10 + j) 0 n) (l_num 5 0 ∷ stores (λ j. 5) n v)))

pub prologue-any : (q : ℕ) (f : MFn) → reals 0 (prologue 0 f) ≡ reals q (prologue q f)
prologue-any q f =
    let q9 = suc (suc (suc (suc (suc (suc (suc (suc (suc q)))))))) in
    let z : 12 ≡ rel (suc (suc (suc (suc q)))) (suc (suc (suc (suc (suc (suc (suc q))))))) = omega arith in
    ap₂ (λ (x : ℕ) (l : List Instr). OpImm Addi 5 2 4294965248 ∷ Op Sub 5 5 3 ∷ Lui 6 (top (4 * suc f.places)) ∷ OpImm Addi 6 6 (low (4 * suc f.places)) ∷ Branch Bgeu 5 6 x ∷ OpImm Addi 17 0 4 ∷ Ecall ∷ Op Sub 2 2 6 ∷ Sw 2 1 4294965248 ∷ l)
    z (tail-any 9 q9 f.params f.vars)

abbrev shaped : ℕ → ℕ → ℕ → MFn
shaped p v s = record { params = p; arrays = 0; vars = v; own = []; places = s; cost = 0; code = [] }

pub prologue-same : {g : Function} {f : MFn} → Head g f → (q : ℕ) → reals 0 (prologue 0 (routine g)) ≡ reals q (prologue q f)
prologue-same {g} {f} h q =
    ap₂ (λ p v. reals 0 (prologue 0 (shaped p v g.places))) h.params h.vars ∙ (ap (λ s. reals 0 (prologue 0 (shaped f.params f.vars s))) h.places ∙ prologue-any q f)
