-- How what the code holds goes on: a step more, a value more or less on the pile, another mark, another target.
use Rattle.std.proofs.Common.{◌≡◌, ℕ, zero, Option, suc, ◌+◌, ◌-◌, ◌*◌, ◌<◌, ◌≤◌, min, ◌≢◌, List, [], ◌∷◌, ◌++◌, length, get_or, set, sym, refl, ap, ◌∙◌, subst, append_assoc, append-nil, arith, length-append, length-set, get_or-set_other, get_or-set_same}
use Rattle.rows.specs.declared.row.Row.{Row}
use Rattle.rows.specs.Row.{Wrote, Pushed}
use Rattle.rows.specs.Trees.{list_row}
use Rattle.rows.proofs.Writing.{wrote-more}
use Rattle.steps.specs.Steps.{Step}
use Rattle.generator.specs.Emit.{Entry, e_temp, e_own, e_arr, above, under, top, below, words_in, Marks, marks, leaves, target_at, aim_at}
use Rattle.generator.specs.StepRows.{step_words}
use Rattle.stepper.specs.declared.writer.Writer.{Writer}
use Rattle.stepper.specs.Swapped.{Lent}
use Rattle.stepper.specs.Stands.{Waits, Placed, own_of, Room, Holds, Stands, Kept, Stepped, Aimed, Put, Lowered, Topped}
use Rattle.stepper.proofs.Targets.{steps-long, aim-long}

-- the pile
pub placed-above : (b : ℕ) (ws : List ℕ) (es : List Entry) → Placed b ws es → length es ≤ length ws → above b es ≡ b + length es
placed-above b ws [] p h = omega arith
placed-above b ws (e_temp ∷ es) p h = let i = placed-above b ws es p.1 (omega arith) in omega arith
placed-above b ws (e_own k ∷ es) p h = let i = placed-above b ws es p.1 (omega arith) in omega arith
placed-above b ws (e_arr o ∷ es) p h = absurd (p.0 (omega arith))

pub placed-words : (b : ℕ) (ws : List ℕ) (n : ℕ) (es : List Entry) → Placed b ws es → length es ≤ length ws → words_in n es ≡ n
placed-words b ws zero es p h = refl
placed-words b ws (suc n) [] p h = ap suc (placed-words b ws n [] tt (omega arith))
placed-words b ws (suc n) (e_temp ∷ es) p h = ap suc (placed-words b ws n es p.1 (omega arith))
placed-words b ws (suc n) (e_own k ∷ es) p h = ap suc (placed-words b ws n es p.1 (omega arith))
placed-words b ws (suc n) (e_arr o ∷ es) p h = absurd (p.0 (omega arith))

pub placed-under : (b : ℕ) (ws : List ℕ) (es : List Entry) → Placed b ws es → Placed b ws (under es)
placed-under b ws [] p = tt
placed-under b ws (e ∷ es) p = p.1

pub under-long : (es : List Entry) → length (under es) ≡ length es - 1
under-long [] = refl
under-long (e ∷ es) = omega arith

pub placed_below : (b : ℕ) (ws : List ℕ) (n : ℕ) (es : List Entry) → Placed b ws es → Placed b ws (below n es)
placed_below b ws zero es p = p
placed_below b ws (suc n) es p = placed_below b ws n (under es) (placed-under b ws es p)

pub below-long : (n : ℕ) (es : List Entry) → length (below n es) ≡ length es - n
below-long zero es = omega arith
below-long (suc n) es = let i = below-long n (under es) in let j = under-long es in omega arith

-- a word written above those that wait
pub placed-set : (b : ℕ) (ws : List ℕ) (es : List Entry) (i w : ℕ) → length es ≤ i → Placed b ws es → Placed b (set ws i w) es
placed-set b ws [] i w h p = tt
placed-set b ws (e ∷ es) i w h p = (
  λ l.
      let ne : length es ≢ i = omega arith in
      subst (λ (n : ℕ). Waits b n e) (sym (get_or-set_other ws i (length es) w 0 ne)) (p.0 (omega (arith, length-set ws i w))),
  placed-set b ws es i w (omega arith) p.1,
)

pub placed-put : (b : ℕ) (ws : List ℕ) (es : List Entry) (i w : ℕ) (e : Entry) → i ≡ length es → Waits b w e → Placed b ws es → Placed b (set ws i w) (e ∷ es)
placed-put b ws es i w e h k p = (
  λ l.
      let lt : i < length ws = omega (arith, length-set ws i w) in
      subst (λ (n : ℕ). Waits b n e) (sym (ap (λ n. get_or (set ws i w) n 0) (sym h) ∙ get_or-set_same ws i w 0 lt)) k,
  placed-set b ws es i w (omega arith) p,
)

-- the steps
row_more : (xs : List Step) (x : Step) → list_row step_words (xs ++ (x ∷ [])) ≡ list_row step_words xs ++ step_words x
row_more [] x = append-nil (step_words x)
row_more (y ∷ xs) x = ap (λ r. step_words y ++ r) (row_more xs x) ∙ sym (append_assoc (step_words y) (list_row step_words xs) (step_words x))

pub room-less : (o : Row) (xs : List Step) (x : Step) → Room o (xs ++ (x ∷ [])) → Room o xs
room-less o xs x h = omega (arith, length-append xs (x ∷ []))

wrote-step : {o p q : Row} (xs : List Step) (x s : Step) → Room o (xs ++ (s ∷ [])) → step_words x ≡ step_words s → Wrote o p (list_row step_words xs) → Pushed p q (step_words x) → Wrote o q (list_row step_words (xs ++ (s ∷ [])))
wrote-step {o} {p} {q} xs x s h e f g =
    let l : length (list_row step_words xs ++ step_words s) ≡ 5 * length (xs ++ (s ∷ [])) = ap length (sym (row_more xs s)) ∙ steps-long (xs ++ (s ∷ [])) in
    let k : length (step_words x) ≡ length (step_words s) = ap length e in
    let i = f.long in
    let j = f.kept in
    let w : Wrote p q (step_words x) = g.wrote (omega (arith, length-append (list_row step_words xs) (step_words s))) in
    subst (Wrote o q) (sym (row_more xs s)) (wrote-more f (subst (Wrote p q) e w))

-- what is lent, over one step and another
pub lent-more : {p q r : Row} → Lent p q → Lent q r → Lent p r
lent-more f g = record { kept = g.kept ∙ f.kept; same = g.same ∙ f.same }

pub lent_none : (p : Row) → Lent p p
lent_none p = record { kept = refl; same = refl }

pub kept-more : {w x y : Writer} → Kept w x → Kept x y → Kept w y
kept-more f g = record { lent = lent-more f.lent g.lent; out = g.out ∙ f.out; pile = g.pile ∙ f.pile; long = g.long ∙ f.long }

pub stands-step : {b : ℕ} {z : Marks} {w x : Writer} {o : Row} (s t : Step) → Stands b z w o → Stepped w x s → length z.out + 1 < 4294967296 → (Holds z w o → step_words s ≡ step_words t) → Stands b (leaves z z.pile t) x o
stands-step {b} {z} {w} {x} {o} s t f g l e = record {
  first = g.same.first ∙ f.first;
  base = g.same.base ∙ f.base;
  height = g.height ∙ f.height;
  placed = subst (λ v. Placed b v z.pile) (sym g.pile) f.placed;
  next = let a = g.next in let c = f.next in omega (arith, length-append z.out (t ∷ []));
  holds = λ room.
      let h : Holds z w o = f.holds (room-less o z.out t room) in
      record { waiting = g.same.waiting ∙ h.waiting; head = g.same.head ∙ h.head; wrote = wrote-step z.out s t room (e h) h.wrote g.pushed };
}

pub stands-put : {b : ℕ} {z : Marks} {w x : Writer} {o : Row} (e : Entry) (k : ℕ) → Stands b z w o → Put w x k → length z.pile + 1 < 4294967296 → Waits b k e → Stands b (marks (e ∷ z.pile) z.waiting z.head z.out) x o
stands-put {b} {z} {w} {x} {o} e k f g l h = record {
  first = g.same.first ∙ f.first;
  base = g.same.base ∙ f.base;
  height = let a = g.height in let c = f.height in omega arith;
  placed = subst (λ v. Placed b v (e ∷ z.pile)) (sym g.pile) (placed-put b w.pile.now z.pile w.height k e f.height h f.placed);
  next = g.next ∙ f.next;
  holds = λ room. let i : Holds z w o = f.holds room in record { waiting = g.same.waiting ∙ i.waiting; head = g.same.head ∙ i.head; wrote = subst (λ p. Wrote o p (list_row step_words z.out)) (sym g.out) i.wrote };
}

-- n values taken off
pub stands-lower : {b : ℕ} {z : Marks} {w x : Writer} {o : Row} (n : ℕ) → Stands b z w o → Lowered w x n → Stands b (marks (below n z.pile) z.waiting z.head z.out) x o
stands-lower {b} {z} {w} {x} {o} n f g = record {
  first = g.same.first ∙ f.first;
  base = g.same.base ∙ f.base;
  height = let a = f.height in let c = g.height in omega (arith, below-long n z.pile);
  placed = subst (λ v. Placed b v (below n z.pile)) (sym g.pile) (placed_below b w.pile.now n z.pile f.placed);
  next = g.next ∙ f.next;
  holds = λ room. let i : Holds z w o = f.holds room in record { waiting = g.same.waiting ∙ i.waiting; head = g.same.head ∙ i.head; wrote = subst (λ p. Wrote o p (list_row step_words z.out)) (sym g.out) i.wrote };
}

-- the value on top
pub topped-own : {b : ℕ} {z : Marks} {w : Writer} {o : Row} {r : Option ℕ} → Stands b z w o → Topped w r → length z.pile ≤ length w.pile.now → r ≡ own_of (top z.pile)
topped-own {b} {z} {w} f g l = g.own z.pile (subst (λ (n : ℕ). Placed n w.pile.now z.pile) (sym f.base) f.placed) f.height l

-- other marks, which are known where there is room
abbrev pub marked : Writer → ℕ → ℕ → Writer
marked w k l = record { first = w.first; base = w.base; height = w.height; waiting = k; head = l; next = w.next; pile = w.pile; out = w.out }

pub stands-marks : {b : ℕ} {z : Marks} {w : Writer} {o : Row} (i h k l : ℕ) → (Room o z.out → k ≡ i) → (Room o z.out → l ≡ h) → Stands b z w o → Stands b (marks z.pile i h z.out) (marked w k l) o
stands-marks {b} {z} {w} {o} i h k l e g f = record {
  first = f.first;
  base = f.base;
  height = f.height;
  placed = f.placed;
  next = f.next;
  holds = λ room. record { waiting = e room; head = g room; wrote = (f.holds room).wrote };
}

pub kept-marks : {w x : Writer} (k l : ℕ) → Kept w x → Kept w (marked x k l)
kept-marks k l f = record { lent = f.lent; out = f.out; pile = f.pile; long = f.long }

-- the same steps, written otherwise
pub stands-steps : {b i h : ℕ} {es : List Entry} {w : Writer} {o : Row} (xs ys : List Step) → xs ≡ ys → Stands b (marks es i h xs) w o → Stands b (marks es i h ys) w o
stands-steps {b} {i} {h} {es} {w} {o} xs ys e f = subst (λ v. Stands b (marks es i h v) w o) e f

-- another target for step i, that code knows as j
pub stands_aim : {b : ℕ} {z : Marks} {w x : Writer} {o : Row} {t : ℕ} (i j u v : ℕ) → Stands b z w o → Aimed w x j v t → (Holds z w o → j ≡ i) → v ≡ u → Stands b (marks z.pile z.waiting z.head (aim_at z.out i u)) x o
stands_aim {b} {z} {w} {x} {o} i j u v f g e d = record {
  first = g.same.first ∙ f.first;
  base = g.same.base ∙ f.base;
  height = g.height ∙ f.height;
  placed = subst (λ l. Placed b l z.pile) (sym g.pile) f.placed;
  next = g.next ∙ (f.next ∙ sym (aim-long z.out i u));
  holds = λ room.
      let h : Holds z w o = f.holds (subst (λ (n : ℕ). o.len + 5 * n ≤ length o.words.now) (aim-long z.out i u) room) in
      record { waiting = g.same.waiting ∙ h.waiting; head = g.same.head ∙ h.head; wrote = subst (λ n. Wrote o x.out.now (list_row step_words (aim_at z.out i n))) d (subst (λ n. Wrote o x.out.now (list_row step_words (aim_at z.out n v))) (e h) (g.swapped.is o z.out f.first h.wrote)) };
}

-- what the target was
pub stands-was : {b : ℕ} {z : Marks} {w x : Writer} {o : Row} {t : ℕ} (i j v : ℕ) → Stands b z w o → Aimed w x j v t → (Holds z w o → j ≡ i) → Room o z.out → t ≡ target_at z.out i
stands-was {b} {z} {w} {x} {o} i j v f g e room =
    let h : Holds z w o = f.holds room in
    g.swapped.was o z.out f.first h.wrote ∙ ap (target_at z.out) (e h)

-- the first free place
pub place_is : {b : ℕ} {z : Marks} {w : Writer} {o : Row} {d : ℕ} → Stands b z w o → length z.pile ≤ length w.pile.now → b + length z.pile < 4294967296 → d ≡ min (w.base + w.height) 4294967295 → d ≡ above b z.pile
place_is {b} {z} {w} f h l e = let a = f.base in let c = f.height in omega (arith, placed-above b w.pile.now z.pile f.placed h)

-- where the steps stand there was room for them
pub holds-room : {z : Marks} {w : Writer} {o : Row} → Holds z w o → Room o z.out
holds-room {z} {w} {o} h = let i = w.out.now.ok in let j = h.wrote.long in let k = h.wrote.kept in let l = steps-long z.out in omega arith
