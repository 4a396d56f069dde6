-- What each node's code does is what the fold does: nodes that use up the value on top.
use Rattle.std.proofs.Common.{◌≡◌, ℕ, ◌+◌, ◌-◌, ◌<◌, ◌≤◌, min, Option, Some, None, List, [], ◌∷◌, ◌++◌, length, sym, refl, ap, ◌∙◌, subst, ap₂, append_assoc, arith, length-append}
use Rattle.rows.specs.declared.row.Row.{Row}
use Rattle.steps.specs.Steps.{Step, s_num, s_copy, s_flag, s_jump, s_jz}
use Rattle.generator.specs.Resolved.{Resolved, v_if, v_or, v_join, v_while}
use Rattle.generator.specs.Emit.{Entry, e_temp, e_own, e_arr, above, under, top, Marks, marks, leaves, settled, emit}
use Rattle.generator.specs.StepRows.{step_words}
use Rattle.stepper.specs.declared.writer.Writer.{Writer}
use Rattle.stepper.specs.Stands.{own_of, Stands, Small, Popped, Stepped, Made, Settled, Goes, Turned, Landed, taken}
use Rattle.stepper.proofs.Standing.{under-long, marked, stands-step, stands-lower, stands-marks, stands-steps, topped-own, place_is, kept-more, kept-marks}

-- an own word is copied
own-top : (e : Entry) (v d : ℕ) (out : List Step) → Some v ≡ own_of e → out ++ (s_copy d v ∷ []) ≡ settled d e out
own-top e_temp v d out h = absurd (cc)
own-top (e_own k) v d out h = let i : v ≡ k = cc in ap (λ n. out ++ (s_copy d n ∷ [])) i
own-top (e_arr o) v d out h = absurd (cc)

-- any other is in its place
temporary_top : (e : Entry) (d : ℕ) (out : List Step) → None ≡ own_of e → out ≡ settled d e out
temporary_top e_temp d out h = refl
temporary_top (e_own k) d out h = absurd (cc)
temporary_top (e_arr o) d out h = refl

pub settled-long : (d : ℕ) (e : Entry) (out : List Step) → length (settled d e out) ≤ length out + 1
settled-long d e_temp out = omega arith
settled-long d (e_own k) out = omega (arith, length-append out (s_copy d k ∷ []))
settled-long d (e_arr o) out = omega arith

pub copied : {w x y : Writer} {own : Option ℕ} (d v : ℕ) → Popped w x own → own ≡ Some v → d ≡ min (x.base + x.height) 4294967295 → Stepped x y (s_copy d v) → Goes taken w y
copied {w} {x} {y} d v p is ed g = record {
  kept = kept-more p.lowered.same.kept g.same.kept;
  goes = λ b z o sm f.
      let deep = sm.deep in
      let places = sm.places in
      let steps = sm.steps in
      let l1 = under-long z.pile in
      let k = p.lowered.same.kept.long in
      let f1 = stands-lower 1 f p.lowered in
      let dd : d ≡ above b (under z.pile) = place_is f1 (omega arith) (omega arith) ed in
      stands-steps (z.out ++ (s_copy (above b (under z.pile)) v ∷ [])) (settled (above b (under z.pile)) (top z.pile) z.out)
      (own-top (top z.pile) v (above b (under z.pile)) z.out (sym is ∙ topped-own f p.topped deep))
      (stands-step (s_copy d v) (s_copy (above b (under z.pile)) v) f1 g (omega arith) (λ _. ap (λ n. step_words (s_copy n v)) dd));
}

pub uncopied : {w x : Writer} {own : Option ℕ} → Popped w x own → own ≡ None → Goes taken w x
uncopied {w} {x} p is = record {
  kept = p.lowered.same.kept;
  goes = λ b z o sm f.
      stands-steps z.out (settled (above b (under z.pile)) (top z.pile) z.out)
      (temporary_top (top z.pile) (above b (under z.pile)) z.out (sym is ∙ topped-own f p.topped sm.deep))
      (stands-lower 1 f p.lowered);
}

-- what is known behind it
record After (b : ℕ) (z : Marks) (x : Writer) (o : Row) (d : ℕ) : Type 0 where
  pub stands : Stands b (taken b z) x o
  pub place : d ≡ above b (under z.pile)
  pub deep : length (under z.pile) ≤ length x.pile.now
  pub places : b + length (under z.pile) + 2 < 4294967296
  pub steps : length (taken b z).out + 3 < 4294967296

after : {w x : Writer} {d : ℕ} → Settled w x d → (b : ℕ) (z : Marks) (o : Row) → Small b z w.pile.now → Stands b z w o → After b z x o d
after {w} {x} {d} g b z o sm f =
    let deep = sm.deep in
    let places = sm.places in
    let steps = sm.steps in
    let l1 = under-long z.pile in
    let l2 = settled-long (above b (under z.pile)) (top z.pile) z.out in
    let k = g.goes.kept.long in
    let f1 = g.goes.goes b z o sm f in
    record { stands = f1; place = place_is f1 (omega arith) (omega arith) g.place; deep = omega arith; places = omega arith; steps = omega arith }

-- a step that takes the value from its place
pub used : {w x y : Writer} {d : ℕ} (v : Resolved) (f : ℕ → Step) → Settled w x d → Stepped x y (f d) → ((b : ℕ) (z : Marks) → emit b v z ≡ leaves (taken b z) (under z.pile) (f (above b (under z.pile)))) → Turned v w y
used {w} {x} {y} {d} v f g h i = record {
  kept = kept-more g.goes.kept h.same.kept;
  goes = λ b z o c sm k.
      let t = after g b z o sm k in
      let steps = t.steps in
      subst (λ q. Stands b q y o) (sym (i b z)) (stands-step (f d) (f (above b (under z.pile))) t.stands h (omega arith) (λ _. ap (λ n. step_words (f n)) t.place));
}

pub tested : {w x y : Writer} {d : ℕ} → Settled w x d → Stepped x y (s_jz d x.waiting) → Turned v_if w (marked y x.next y.head)
tested {w} {x} {y} {d} g h = record {
  kept = kept-marks x.next y.head (kept-more g.goes.kept h.same.kept);
  goes = λ b z o c sm k.
      let t = after g b z o sm k in
      let steps = t.steps in
      let f2 = stands-step (s_jz d x.waiting) (s_jz (above b (under z.pile)) z.waiting) t.stands h (omega arith) (λ i. ap₂ (λ m n. step_words (s_jz m n)) t.place i.waiting) in
      stands-marks (length (taken b z).out) z.head x.next y.head (λ _. t.stands.next) (λ room. (f2.holds room).head) f2;
}

three : (xs : List Step) (x y z : Step) → ((xs ++ (x ∷ [])) ++ (y ∷ [])) ++ (z ∷ []) ≡ xs ++ (x ∷ y ∷ z ∷ [])
three xs x y z = append_assoc (xs ++ (x ∷ [])) (y ∷ []) (z ∷ []) ∙ append_assoc xs (x ∷ []) (y ∷ z ∷ [])

pub or_tested : {w x y1 y2 y3 : Writer} (d j u : ℕ) → Settled w x d → j ≡ min (x.next + 2) 4294967295 → u ≡ min (x.next + 3) 4294967295 → Stepped x y1 (s_jz d u) → Stepped y1 y2 (s_num d 1) → Stepped y2 y3 (s_jump y2.waiting) → Turned v_or w (marked y3 j y3.head)
or_tested {w} {x} {y1} {y2} {y3} d j u g ej eu h1 h2 h3 = record {
  kept = kept-marks j y3.head (kept-more g.goes.kept (kept-more h1.same.kept (kept-more h2.same.kept h3.same.kept)));
  goes = λ b z o c sm k.
      let t = after g b z o sm k in
      let steps = t.steps in
      let nx = t.stands.next in
      let out = (taken b z).out in
      let dd = t.place in
      let above1 = above b (under z.pile) in
      let x1 = s_jz above1 (length out + 3) in
      let x2 = s_num above1 1 in
      let x3 = s_jump z.waiting in
      let uu : u ≡ length out + 3 = omega arith in
      let f1 = stands-step (s_jz d u) x1 t.stands h1 (omega arith) (λ i. ap₂ (λ m n. step_words (s_jz m n)) dd uu) in
      let f2 = stands-step (s_num d 1) x2 f1 h2 (omega (arith, length-append out (x1 ∷ []))) (λ i. ap (λ n. step_words (s_num n 1)) dd) in
      let f3 = stands-step (s_jump y2.waiting) x3 f2 h3 (omega (arith, length-append out (x1 ∷ []), length-append (out ++ (x1 ∷ [])) (x2 ∷ []))) (λ i. ap (λ n. step_words (s_jump n)) i.waiting) in
      stands-steps (((out ++ (x1 ∷ [])) ++ (x2 ∷ [])) ++ (x3 ∷ [])) (out ++ (x1 ∷ x2 ∷ x3 ∷ [])) (three out x1 x2 x3)
      (stands-marks (length out + 2) z.head j y3.head (λ _. omega arith) (λ room. (f3.holds room).head) f3);
}

pub stayed : {w x y : Writer} (d u : ℕ) → Settled w x d → u ≡ x.head - 1 → Stepped x y (s_jz d u) → Turned v_while w y
stayed {w} {x} {y} d u g eu h = record {
  kept = kept-more g.goes.kept h.same.kept;
  goes = λ b z o c sm k.
      let t = after g b z o sm k in
      let steps = t.steps in
      stands-step (s_jz d u) (s_jz (above b (under z.pile)) (z.head - 1)) t.stands h (omega arith) (λ i. ap₂ (λ m n. step_words (s_jz m n)) t.place (eu ∙ ap (λ n. n - 1) i.head));
}

pub joined : {w x y1 y2 : Writer} (d : ℕ) → Settled w x d → Made (s_flag d d) x y1 → Landed y1 y2 → Turned v_join w y2
joined {w} {x} {y1} {y2} d g h1 h2 = record {
  kept = kept-more g.goes.kept (kept-more h1.kept h2.kept);
  goes = λ b z o c sm k.
      let t = after g b z o sm k in
      let steps = t.steps in
      let places = t.places in
      let above1 = above b (under z.pile) in
      let x1 = s_flag above1 above1 in
      let f1 = h1.goes b (taken b z) o x1 (omega arith) (omega arith) (λ _. ap (λ n. step_words (s_flag n n)) t.place) t.stands in
      h2.goes b (marks (e_temp ∷ under z.pile) z.waiting z.head ((taken b z).out ++ (x1 ∷ []))) o f1;
}
