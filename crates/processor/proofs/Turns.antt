-- One more step of a run: what the loop of `run` keeps from turn to turn, and what it comes to where it stops.
use Rattle.std.proofs.Common.{◌≡◌, ℕ, zero, suc, ◌+◌, ◌-◌, ◌<◌, ◌≤◌, List, [], ◌∷◌, ◌++◌, length, take, drop, set, Some, None, Bor, sym, refl, ap, ◌∙◌, subst, not-suc-le-zero, add-one, arith, length-set, length-drop, drop-drop, take-suc-set, drop-set-lt, below_more}
use Rattle.processor.specs.Machine.{Machine, Next, goes, halts, faults, then, step, after, reads}
use Rattle.processor.specs.Promise.{machine, says, Stepped, Answered, Stops, Going, RunsAs}
use Rattle.processor.specs.declared.cpu.Cpu.{Cpu}
use Rattle.processor.specs.declared.cpu.Event.{Event}
use Rattle.processor.specs.declared.cpu.Event.TheVariants.{Goes, Out, In}

pub one_more : (m : Machine) (k : ℕ) (ins outs : List ℕ) (c c' : Cpu) (mem mem' : List ℕ) (e : Event) → after k m ≡ goes (machine ins outs c mem) → Stepped c mem e c' mem' → after (k + 1) m ≡ says e (machine ins outs c' mem')
one_more m k ins outs c c' mem mem' e inv s = ap (λ (n : ℕ). after n m) (add-one k) ∙ ap (λ (n : Next). then n step) inv ∙ s ins outs

-- what is left of a list, behind some of it
abbrev pub Rest : List ℕ → List ℕ → Type 0
Rest xs ys = (n : ℕ) × (n ≤ length xs) × (ys ≡ drop n xs)

-- what the loop keeps: the steps made, with what is left to read and what was put out; the words behind that are as they were
abbrev pub Kept : Machine → ℕ → List ℕ → List ℕ → List ℕ → ℕ → List ℕ → Cpu → List ℕ → Type 0
Kept m k input room left s out c mem =
    (after k m ≡ goes (machine left (take s out) c mem))
    × Rest input left × (s ≤ length out) × (length out ≡ length room) × (drop s out ≡ drop s room)

pub to : (m : Machine) (k : ℕ) (input room : List ℕ) (left left2 : Bor (List ℕ)) (s s2 : ℕ) (out out2 : List ℕ) (c c2 : Cpu) (mem : List ℕ) → left2 ≡ left → s2 ≡ s → out2 ≡ out → c2 ≡ c → Kept m k input room left.now s out c mem → Kept m k input room left2.now s2 out2 c2 mem
to m k input room left left2 s s2 out out2 c c2 mem e1 e2 e3 e4 h = rw (e1, e2, e3, e4) h

-- one word fewer is left
rest_more : (xs ys zs : List ℕ) (y : ℕ) → Rest xs ys → ys ≡ y ∷ zs → Rest xs zs
rest_more xs ys zs y r e =
    let lt : length zs < length ys = rw e (omega arith) in
    let d : zs ≡ drop 1 (drop r.0 xs) = ap (drop 1) (sym e ∙ r.2) in
    let n : length ys ≡ length xs - r.0 = ap length r.2 ∙ length-drop r.0 xs in
    (r.0 + 1, omega arith, d ∙ drop-drop 1 r.0 xs)

-- it lies behind as many words as it is shorter by
rest_taken : (xs ys : List ℕ) → Rest xs ys → ys ≡ drop (length xs - length ys) xs
rest_taken xs ys r =
    let n : length ys ≡ length xs - r.0 = ap length r.2 ∙ length-drop r.0 xs in
    r.2 ∙ ap (λ (j : ℕ). drop j xs) (omega (arith, n, r.1))

module _ (m : Machine) (k : ℕ) (input room left : List ℕ) (s : ℕ) (out : List ℕ) (c c1 c2 : Cpu) (mem mem1 : List ℕ) (h : Kept m k input room left s out c mem) where
  pub turn_goes : Stepped c mem Goes c1 mem1 → Kept m (k + 1) input room left s out c1 mem1
  turn_goes st = (one_more m k _ _ c c1 mem mem1 Goes h.0 st, h.1, h.2, h.3, h.4)

  pub turn_out : (x : ℕ) → Stepped c mem (Out x) c1 mem1 → ¬ (s ≡ length out) → Kept m (k + 1) input room left (s + 1) (set out s x) c1 mem1
  turn_out x st ne =
      let lt : s < length out = omega arith in
      let tk : take s out ++ (x ∷ []) ≡ take (s + 1) (set out s x) = sym (ap (λ (n : ℕ). take n (set out s x)) (add-one s) ∙ take-suc-set out s x lt) in
      let bk : drop (s + 1) (set out s x) ≡ drop (s + 1) room = drop-set-lt (s + 1) out s x (omega arith) ∙ sym (drop-drop 1 s out) ∙ ap (drop 1) h.4 ∙ drop-drop 1 s room in
      (one_more m k _ _ c c1 mem mem1 (Out x) h.0 st ∙ ap (λ (o : List ℕ). goes (machine left o c1 mem1)) tk, h.1, omega (arith, length-set out s x), length-set out s x ∙ h.3, bk)

  pub turn_some : (x : ℕ) (rest : List ℕ) → Stepped c mem In c1 mem1 → left ≡ x ∷ rest → Answered (Some x) c1 c2 → Kept m (k + 1) input room rest s out c2 mem1
  turn_some x rest st e an =
      (one_more m k _ _ c c1 mem mem1 In h.0 st ∙ ap (λ (i : List ℕ). reads (machine i (take s out) c1 mem1) i) e ∙ an rest (take s out) mem1, rest_more input left rest x h.1 e, h.2, h.3, h.4)

  pub turn_none : Stepped c mem In c1 mem1 → left ≡ [] → Answered None c1 c2 → Kept m (k + 1) input room left s out c2 mem1
  turn_none st e an =
      (one_more m k _ _ c c1 mem mem1 In h.0 st ∙ ap (λ (i : List ℕ). reads (machine i (take s out) c1 mem1) i) e ∙ an [] (take s out) mem1 ∙ ap (λ (i : List ℕ). goes (machine i (take s out) c2 mem1)) (sym e), h.1, h.2, h.3, h.4)

-- what goes on after some steps went on before each of them
going_then : (n : Next) → Going (then n step) → Going n
going_then (goes m) g = tt
going_then (halts c x m) g = absurd g
going_then faults g = absurd g

going_all : (m : Machine) (k : ℕ) → Going (after k m) → (j : ℕ) → j < k + 1 → Going (after j m)
going_all m zero g = below_more (λ (j : ℕ). Going (after j m)) 0 (λ j h. absurd (not-suc-le-zero h)) g
going_all m (suc k) g = below_more (λ (j : ℕ). Going (after j m)) (suc k) (λ j h. going_all m k (going_then (after k m) g) j (omega arith)) g

module _ (steps : ℕ) (input room : List ℕ) (c0 : Cpu) (mem0 : List ℕ) (k : ℕ) (left : Bor (List ℕ)) (s : ℕ) (out : List ℕ) (c c1 : Cpu) (mem mem1 : List ℕ) (h : Kept (machine input [] c0 mem0) k input room left.now s out c mem) where
  before : (j : ℕ) → j < k + 1 → Going (after j (machine input [] c0 mem0))
  before = going_all (machine input [] c0 mem0) k (subst Going (sym h.0) tt)

  pub stop_at : (e : Event) → k < steps → Stepped c mem e c1 mem1 → Stops e (k + 1) steps s (length room) → RunsAs steps input c0 mem0 room (record { event = e; steps = k + 1; taken = length input - length left.now; shown = s }) c1 mem1 out
  stop_at e lt st stops = record {
    in_budget = omega arith;
    makes_some = λ l. omega arith;
    comes_to = one_more (machine input [] c0 mem0) k _ _ c c1 mem mem1 e h.0 st ∙ ap (λ (i : List ℕ). says e (machine i (take s out) c1 mem1)) (rest_taken input left.now h.1);
    goes_before = before;
    stops = stops;
    in_input = omega arith;
    in_output = omega (arith, h.2, h.3);
    behind = h.4;
  }

  pub stop_last : k ≡ steps → RunsAs steps input c0 mem0 room (record { event = Goes; steps = steps; taken = length input - length left.now; shown = s }) c mem out
  stop_last e = record {
    in_budget = omega arith;
    makes_some = λ l. l;
    comes_to = ap (λ (n : ℕ). after n (machine input [] c0 mem0)) (sym e) ∙ h.0 ∙ ap (λ (i : List ℕ). goes (machine i (take s out) c mem)) (rest_taken input left.now h.1);
    goes_before = λ j l. before j (omega arith);
    stops = refl;
    in_input = omega arith;
    in_output = omega (arith, h.2, h.3);
    behind = h.4;
  }
