-- The three ways of giving a jump another target: there is no such step, it is no jump, it is one.
use Rattle.std.proofs.Common.{◌≡◌, ℕ, suc, ◌+◌, ◌-◌, ◌*◌, ◌<◌, ◌≤◌, min, ◌⊎◌, List, length, get_or, sym, refl, ◌∙◌, subst, arith}
use Rattle.rows.specs.declared.row.Row.{Row}
use Rattle.rows.specs.Row.{Wrote, Patched}
use Rattle.rows.specs.Trees.{list_row}
use Rattle.steps.specs.Steps.{Step}
use Rattle.generator.specs.StepRows.{step_words}
use Rattle.stepper.specs.Swapped.{Swapped}
use Rattle.stepper.proofs.Targets.{steps-long, far, far-is, row-was, row_is, plain-was, plain-is, past-was, past_is, word_at, wrote-put}

abbrev Top : ℕ → ℕ → ℕ
Top first i = min (first + (i * 5 + 2)) 18446744073709551615

same_row : {o p : Row} {ss ts : List Step} → ts ≡ ss → Wrote o p (list_row step_words ss) → Wrote o p (list_row step_words ts)
same_row {o} {p} e f = subst (λ xs. Wrote o p (list_row step_words xs)) (sym e) f

pub swapped_past : (p : Row) (first i u at : ℕ) → at ≡ Top first i → p.len ≤ at → Swapped p p first i u 0
swapped_past p first i u at e h = record {
  lent = record { kept = refl; same = refl };
  was = λ o ss g f. sym (past-was ss i (behind o ss g f));
  is = λ o ss g f. same_row (past_is ss i u (behind o ss g f)) f;
}
  where
    behind : (o : Row) (ss : List Step) → first ≡ o.len → Wrote o p (list_row step_words ss) → length ss ≤ i
    behind o ss g f = let l = f.long in let k = steps-long ss in omega arith

-- a step that is there
pub record There (o p : Row) (ss : List Step) (i at : ℕ) : Type 0 where
  pub inside : i < length ss
  pub tag : get_or (list_row step_words ss) (far i) 0 ≡ get_or p.words.now (at - 2) 0
  pub target : get_or (list_row step_words ss) (suc (suc (far i))) 0 ≡ get_or p.words.now at 0
  pub place : at ≡ o.len + suc (suc (far i))

there : (o p : Row) (ss : List Step) (first i at : ℕ) → at ≡ Top first i → at < p.len → p.len ≤ 18446744073709551615 → first ≡ o.len → Wrote o p (list_row step_words ss) → There o p ss i at
there o p ss first i at e h b g f =
    let l = f.long in
    let k = steps-long ss in
    let d = far-is i in
    record {
      inside = omega arith;
      tag = sym (word_at (far i) (at - 2) (omega arith) f (omega arith));
      target = sym (word_at (suc (suc (far i))) at (omega arith) f (omega arith));
      place = omega arith;
    }

pub swapped_plain : (p : Row) (first i u at : ℕ) → at ≡ Top first i → at < p.len → p.len ≤ 18446744073709551615 → (get_or p.words.now (at - 2) 0 ≡ 7 → ⊥) → (get_or p.words.now (at - 2) 0 ≡ 8 → ⊥) → Swapped p p first i u 0
swapped_plain p first i u at e h b no7 no8 = record {
  lent = record { kept = refl; same = refl };
  was = λ o ss g f. let t = there o p ss first i at e h b g f in sym (plain-was ss i (λ x. no7 (sym t.tag ∙ x)) (λ x. no8 (sym t.tag ∙ x)));
  is = λ o ss g f. let t = there o p ss first i at e h b g f in same_row (plain-is ss i u (λ x. no7 (sym t.tag ∙ x)) (λ x. no8 (sym t.tag ∙ x))) f;
}

pub swapped_jump : (p q : Row) (first i u at : ℕ) → at ≡ Top first i → at < p.len → p.len ≤ 18446744073709551615 → (get_or p.words.now (at - 2) 0 ≡ 7) ⊎ (get_or p.words.now (at - 2) 0 ≡ 8) → Patched p q at u → Swapped p q first i u (get_or p.words.now at 0)
swapped_jump p q first i u at e h b j w = record {
  lent = record { kept = w.kept; same = w.same };
  was = λ o ss g f. let t = there o p ss first i at e h b g f in sym t.target ∙ row-was ss i t.inside (jump (sym t.tag));
  is = λ o ss g f. let t = there o p ss first i at e h b g f in subst (Wrote o q) (row_is ss i u t.inside (jump (sym t.tag))) (wrote-put (suc (suc (far i))) at u t.place f w);
}
  where
    jump : {n : ℕ} → get_or p.words.now (at - 2) 0 ≡ n → (n ≡ 7) ⊎ (n ≡ 8)
    jump {n} x = subst (λ k. (k ≡ 7) ⊎ (k ≡ 8)) x j
