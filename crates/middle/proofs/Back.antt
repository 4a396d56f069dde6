-- What was written is read back.
use Rattle.std.proofs.Common.{◌≡◌, ℕ, ◌+◌, ◌-◌, Bool, true, false, ◌&&◌, leb, List, [], ◌∷◌, length, get_or, take, drop, sym, refl, ap, ◌∙◌, subst, append-nil, arith, length-drop}
use Rattle.std.proofs.lemmas.List.{take_all, take_at}
use mathlib.Core.Bool.{false≢true}
use Rattle.rows.specs.Has.{Has}
use Rattle.rows.proofs.Having.{has-at}
use Rattle.steps.specs.Steps as steps
use Rattle.steps.specs.Steps.{Opnd, s_num, s_copy, s_bin, s_un, s_flag, s_getw, s_setw, s_jump, s_jz, s_call, s_table, s_out, s_ret, s_in, s_idx, s_put, s_len}
use Rattle.lower.specs.Core.{core_step}
use Rattle.generator.specs.StepRows.{step_words}
use Rattle.std.specs.Result.{result_ok}
use Rattle.middle.specs.Steps.{decoded, ReadsBack}

and-false : (n : ℕ) → leb n 8 && false ≡ true → ⊥
and-false n e = go (leb n 8) e
  where
    go : (b : Bool) → b && false ≡ true → ⊥
    go true h = false≢true h
    go false h = false≢true h

-- a step's word
abbrev word : steps.Step → ℕ → ℕ
word s k = get_or (step_words s) k 0

own : (s : steps.Step) → core_step s ≡ true → ReadsBack s (result_ok (decoded (word s 0) (word s 1) (word s 2) (word s 3) (word s 4)))
own (s_num d n) h = refl
own (s_copy d a) h = refl
own (s_bin o d a b) h = refl
own (s_un o d a) h = refl
own (s_flag d a) h = refl
own (s_getw d i) h = refl
own (s_setw i a) h = refl
own (s_jump t) h = refl
own (s_jz a t) h = refl
own (s_call d f k n []) h = refl
own (s_call d f k n (o ∷ os)) h = absurd (and-false n h)
own (s_table d i t k n os) h = absurd (false≢true h)
own (s_out a) h = refl
own (s_ret a) h = refl
own (s_in d) h = absurd (false≢true h)
own (s_idx d o i) h = absurd (false≢true h)
own (s_put w o i a) h = absurd (false≢true h)
own (s_len d o) h = absurd (false≢true h)

-- a step has five words
pub long : (s : steps.Step) → length (step_words s) ≡ 5
long (s_num d n) = refl
long (s_copy d a) = refl
long (s_bin o d a b) = refl
long (s_un o d a) = refl
long (s_flag d a) = refl
long (s_getw d i) = refl
long (s_setw i a) = refl
long (s_jump t) = refl
long (s_jz a t) = refl
long (s_call d f k n os) = refl
long (s_table d i t k n os) = refl
long (s_out a) = refl
long (s_ret a) = refl
long (s_in d) = refl
long (s_idx d o i) = refl
long (s_put w o i a) = refl
long (s_len d o) = refl

alike : (Q : ℕ → ℕ → ℕ → ℕ → ℕ → Type 0) {a b c d e a2 b2 c2 d2 e2 : ℕ} → a ≡ a2 → b ≡ b2 → c ≡ c2 → d ≡ d2 → e ≡ e2 → Q a2 b2 c2 d2 e2 → Q a b c d e
alike Q {a} {b} {c} {d} {e} {a2} {b2} {c2} {d2} {e2} p q r s t x =
    subst (λ n. Q n b c d e) (sym p) (subst (λ n. Q a2 n c d e) (sym q) (subst (λ n. Q a2 b2 n d e) (sym r) (subst (λ n. Q a2 b2 c2 n e) (sym s) (subst (λ n. Q a2 b2 c2 d2 n) (sym t) x))))

-- where a step's words stand, it is read back
pub back : (w : List ℕ) (i : ℕ) (s : steps.Step) → core_step s ≡ true → Has w i (step_words s) → ReadsBack s (result_ok (decoded (get_or w i 0) (get_or w (i + 1) 0) (get_or w (i + 2) 0) (get_or w (i + 3) 0) (get_or w (i + 4) 0)))
back w i s h e =
    let l = long s in
    alike (λ k a b c d. ReadsBack s (result_ok (decoded k a b c d))) (ap (λ n. get_or w n 0) (let z : i ≡ i + 0 = omega arith in z) ∙ has-at 0 e (omega (arith, l))) (has-at 1 e (omega (arith, l))) (has-at 2 e (omega (arith, l))) (has-at 3 e (omega (arith, l))) (has-at 4 e (omega (arith, l))) (own s h)

-- the same of five words alone
pub back_alone : (ws : List ℕ) (s : steps.Step) → core_step s ≡ true → ws ≡ step_words s → ReadsBack s (result_ok (decoded (get_or ws 0 0) (get_or ws 1 0) (get_or ws 2 0) (get_or ws 3 0) (get_or ws 4 0)))
back_alone ws s c e = back ws 0 s c (record { rest = []; is = e ∙ sym (append-nil (step_words s)); inside = omega (arith, ap length e) })

-- the first five words behind a place where a step's words stand
pub words_of : (w a ws : List ℕ) (i : ℕ) (s : steps.Step) → Has w i (step_words s) → a ≡ take (length w - i) (drop i w) → ws ≡ take 5 a → ws ≡ step_words s
words_of w a ws i s h e k = k ∙ ap (take 5) (e ∙ take_all (length w - i) (drop i w) (omega (arith, length-drop i w)) ∙ h.is) ∙ take_at (step_words s) h.rest 5 (long s)
