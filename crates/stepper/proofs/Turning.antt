-- What each node's code does is what the fold does: values.
use Rattle.std.proofs.Common.{◌≡◌, ℕ, suc, ◌+◌, min, Option, [], sym, refl, ap, ◌∙◌, subst, arith, ltb-true}
use Rattle.std.specs.Option.{unwrap_or}
use Rattle.steps.specs.Steps.{Step, s_bin, s_un, s_call}
use Rattle.generator.specs.Resolved.{Resolved, v_own, v_bin, v_un, v_call}
use Rattle.generator.specs.Emit.{Entry, e_temp, e_own, e_arr, above, under, top, below, place_of, words_in, arrays_in, Marks, marks, makes, leaves, emit}
use Rattle.generator.specs.StepRows.{step_words}
use Rattle.stepper.specs.declared.writer.Writer.{Writer}
use Rattle.stepper.specs.Stands.{own_of, Stands, Put, Stepped, Lowered, Popped, Took, Made, Turned}
use Rattle.stepper.proofs.Standing.{placed-words, placed-above, under-long, below-long, stands-step, stands-put, stands-lower, topped-own, place_is, kept-more}

-- an own word, or else the temporary place
own_or : (d : ℕ) (e : Entry) → unwrap_or (own_of e) d ≡ place_of d e
own_or d e_temp = refl
own_or d (e_own k) = refl
own_or d (e_arr o) = refl

pub place-or : {d t r : ℕ} {own : Option ℕ} (e : Entry) → own ≡ own_of e → t ≡ d → r ≡ unwrap_or own t → r ≡ place_of d e
place-or {d} {t} e f g h = h ∙ (ap (λ o. unwrap_or o t) f ∙ (ap (λ n. unwrap_or (own_of e) n) g ∙ own_or d e))

pub made : {w x y : Writer} {s : Step} {d : ℕ} → d ≡ min (w.base + w.height) 4294967295 → Stepped w x s → Put x y d → Made s w y
made {w} {x} {y} {s} {d} e g k = record {
  kept = kept-more g.same.kept k.same.kept;
  goes = λ b z o t hb hl h f. stands-put e_temp d (stands-step s t f g hl h) k (omega arith) (let a = f.base in let c = f.height in omega arith);
}

-- a step that only has the first free place in it
pub fetched : {w x : Writer} {d : ℕ} (v : Resolved) (s : ℕ → Step) → d ≡ min (w.base + w.height) 4294967295 → ((b : ℕ) (z : Marks) → emit b v z ≡ makes z z.pile (s (above b z.pile))) → Made (s d) w x → Turned v w x
fetched {w} {x} {d} v s e i g = record {
  kept = g.kept;
  goes = λ b z o c sm f. subst (λ y. Stands b y x o) (sym (i b z)) (g.goes b z o (s (above b z.pile)) (let a = sm.places in omega arith) (let a = sm.steps in omega arith) (λ h. ap (λ n. step_words (s n)) (place_is f sm.deep (let a = sm.places in omega arith) e)) f);
}

pub own_put : {w x : Writer} {k : ℕ} → Put w x k → Turned (v_own k) w x
own_put {w} {x} {k} g = record {
  kept = g.same.kept;
  goes = λ b z o c sm f. stands-put (e_own k) k f g (let a = sm.places in omega arith) (refl, ltb-true k b c);
}

-- the value on top taken off, where it is
pub took : {w x : Writer} {own : Option ℕ} {d r : ℕ} → Popped w x own → d ≡ min (x.base + x.height) 4294967295 → r ≡ unwrap_or own d → Took w x r
took {w} {x} {own} {d} {r} p e h = record {
  kept = p.lowered.same.kept;
  goes = λ b z o sm f. stands-lower 1 f p.lowered;
  value = λ b z o sm f.
      let deep = sm.deep in
      let places = sm.places in
      let l1 = under-long z.pile in
      let k = p.lowered.same.kept.long in
      place-or (top z.pile) (topped-own f p.topped deep) (place_is (stands-lower 1 f p.lowered) (omega arith) (omega arith) e) h;
}

pub binary_turns : {w x y v : Writer} {right left : Option ℕ} (op d l t r : ℕ) → Popped w x right → Popped x y left → d ≡ min (y.base + y.height) 4294967295 → l ≡ unwrap_or left d → t ≡ min (d + 1) 4294967295 → r ≡ unwrap_or right t → Made (s_bin op d l r) y v → Turned (v_bin op) w v
binary_turns {w} {x} {y} {v} op d l t r p q ed el et er g = record {
  kept = kept-more p.lowered.same.kept (kept-more q.lowered.same.kept g.kept);
  goes = λ b z o c sm f.
      let deep = sm.deep in
      let places = sm.places in
      let steps = sm.steps in
      let l1 = under-long z.pile in
      let l2 = under-long (under z.pile) in
      let k1 = p.lowered.same.kept.long in
      let k2 = q.lowered.same.kept.long in
      let f1 = stands-lower 1 f p.lowered in
      let f2 = stands-lower 1 f1 q.lowered in
      let dd : d ≡ above b (under (under z.pile)) = place_is f2 (omega arith) (omega arith) ed in
      let hi = placed-above b y.pile.now (under (under z.pile)) f2.placed (omega arith) in
      let dt : t ≡ suc (above b (under (under z.pile))) = omega arith in
      let le = place-or (top (under z.pile)) (topped-own f1 q.topped (omega arith)) dd el in
      let ri = place-or (top z.pile) (topped-own f p.topped deep) dt er in
      g.goes b (marks (under (under z.pile)) z.waiting z.head z.out) o
      (s_bin op (above b (under (under z.pile))) (place_of (above b (under (under z.pile))) (top (under z.pile))) (place_of (suc (above b (under (under z.pile)))) (top z.pile)))
      (omega arith) (omega arith) (λ h. cc) f2;
}

pub unary_turns : {w x y : Writer} (op d l : ℕ) → Took w x l → d ≡ min (x.base + x.height) 4294967295 → Made (s_un op d l) x y → Turned (v_un op) w y
unary_turns {w} {x} {y} op d l p ed g = record {
  kept = kept-more p.kept g.kept;
  goes = λ b z o c sm f.
      let deep = sm.deep in
      let places = sm.places in
      let steps = sm.steps in
      let l1 = under-long z.pile in
      let k = p.kept.long in
      let f1 = p.goes b z o sm f in
      let dd : d ≡ above b (under z.pile) = place_is f1 (omega arith) (omega arith) ed in
      let le = p.value b z o sm f in
      g.goes b (marks (under z.pile) z.waiting z.head z.out) o
      (s_un op (above b (under z.pile)) (place_of (above b (under z.pile)) (top z.pile)))
      (omega arith) (omega arith) (λ h. cc) f1;
}

pub call_turns : {w x y : Writer} (fn n d : ℕ) → Lowered w x n → d ≡ min (x.base + x.height) 4294967295 → Made (s_call d fn d n []) x y → Turned (v_call fn n) w y
call_turns {w} {x} {y} fn n d p ed g = record {
  kept = kept-more p.same.kept g.kept;
  goes = λ b z o c sm f.
      let deep = sm.deep in
      let places = sm.places in
      let steps = sm.steps in
      let l1 = below-long n z.pile in
      let k = p.same.kept.long in
      let f1 = stands-lower n f p in
      let dd : d ≡ above b (below n z.pile) = place_is f1 (omega arith) (omega arith) ed in
      let many : words_in n z.pile ≡ n = placed-words b w.pile.now n z.pile f.placed deep in
      g.goes b (marks (below n z.pile) z.waiting z.head z.out) o
      (s_call (above b (below n z.pile)) fn (above b (below n z.pile)) (words_in n z.pile) (arrays_in n z.pile))
      (omega arith) (omega arith) (λ h. cc) f1;
}

-- a value where it is
pub shown : {w x y : Writer} {r : ℕ} (v : Resolved) (f : ℕ → Step) → Took w x r → Stepped x y (f r) → ((b : ℕ) (z : Marks) → emit b v z ≡ leaves z (under z.pile) (f (place_of (above b (under z.pile)) (top z.pile)))) → Turned v w y
shown {w} {x} {y} {r} v f p g i = record {
  kept = kept-more p.kept g.same.kept;
  goes = λ b z o c sm k.
      let steps = sm.steps in
      subst (λ q. Stands b q y o) (sym (i b z)) (stands-step (f r) (f (place_of (above b (under z.pile)) (top z.pile))) (p.goes b z o sm k) g (omega arith) (λ _. ap (λ n. step_words (f n)) (p.value b z o sm k)));
}
