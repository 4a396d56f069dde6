-- The instructions of steps and functions, written one after another.
use Rattle.std.proofs.Common.{◌≡◌, ℕ, zero, suc, ◌+◌, ◌*◌, ◌<◌, ◌≤◌, min, true, List, [], ◌∷◌, ◌++◌, length, map, get_or, drop, sym, refl, ap, ◌∙◌, subst, append_assoc, append-nil, add-zero, arith, length-append, length-drop}
use Rattle.std.proofs.lemmas.List.{length-map}
use Rattle.language.specs.Words.{all}
use Rattle.rows.specs.Has.{Has}
use Rattle.rows.proofs.Having.{has_left, has_right, has_to, has-at}
use Rattle.middle.proofs.Chunks.{next-is}
use Rattle.steps.specs.Steps.{Step, MFn, MProg}
use Rattle.steps.specs.Fits.{Each, StepFits, FnFits}
use Rattle.processor.specs.declared.instr.Instr.{Instr}
use Rattle.generator.specs.StepRows.{step_words, fn_words}
use Rattle.lower.specs.Lower.{lower, width, pro_width, fun_width, fun_row, funs_row, prologue, at_of, code_of, entry_in}
use Rattle.lower.specs.Core.{core_step}
use Rattle.lower.proofs.RowPlaces.{width_is, fun_width-is}
use Rattle.assembler.specs.declared.code.Code.{Code}
use Rattle.assembler.specs.declared.frame.Frame.{Frame}
use Rattle.assembler.specs.Emission.{reals, Put}
use Rattle.assembler.specs.Frames.{bare, routine, entry_at, step_place}
use Rattle.assembler.specs.Tables.{starts, all_starts, StepsAre, FunctionsAre, Framed, Tabled, Head}
use Rattle.assembler.proofs.Putting.{put-none, put_as, put_then, put-more, reals-append, reals-length}
use Rattle.assembler.proofs.Measuring.{first_function, its-steps, next-functions}
use Rattle.assembler.proofs.Bridge.{lower-same, prologue-same}

-- the instructions of some steps that stand at place q
abbrev pub steps_real : MProg → MFn → (ℕ → ℕ) → List Step → ℕ → List Instr
steps_real m f at ss q = reals q (code_of (entry_in m) at m f ss q)

-- a step and the steps behind it
steps-cons : (m : MProg) (f : MFn) (at : ℕ → ℕ) (s : Step) (ss : List Step) (q : ℕ) → reals q (lower (entry_in m) at m f q s) ++ steps_real m f at ss (q + width m f s) ≡ steps_real m f at (s ∷ ss) q
steps-cons m f at s ss q =
    let e = width_is (entry_in m) at m f q s in
    ap (λ n. reals q (lower (entry_in m) at m f q s) ++ reals (q + n) (code_of (entry_in m) at m f ss (q + width m f s))) (sym e)
    ∙ sym (reals-append q (lower (entry_in m) at m f q s) (code_of (entry_in m) at m f ss (q + width m f s)))

-- what is known between two steps
pub record Emitting (m : MProg) (f : MFn) (at : ℕ → ℕ) (ss : List Step) (steps : List (List ℕ)) (o p : Code) (i : ℕ) : Type 0 where
  pub rest : List Step
  pub done : List Instr
  pub has : drop i steps ≡ map step_words rest
  pub core : Each (λ s. core_step s ≡ true) rest
  pub fits : Each (StepFits m f) rest
  pub put : Put o p done
  pub whole : done ++ steps_real m f at rest (o.here + length done) ≡ steps_real m f at ss o.here

pub emitting_first : (m : MProg) (f : MFn) (at : ℕ → ℕ) (ss : List Step) {steps : List (List ℕ)} (o : Code) → StepsAre steps ss → Each (StepFits m f) ss → Emitting m f at ss steps o o 0
emitting_first m f at ss {steps} o h k = record { rest = ss; done = []; has = h.is; core = h.core; fits = k; put = put-none o; whole = ap (λ n. steps_real m f at ss n) (add-zero o.here) }

pub emitting_last : {m : MProg} {f : MFn} {at : ℕ → ℕ} {ss : List Step} {steps : List (List ℕ)} {o p : Code} {i : ℕ} → Emitting m f at ss steps o p i → length steps ≤ i → Put o p (steps_real m f at ss o.here)
emitting_last {m} {f} {at} {ss} {steps} {o} {p} {i} h l = go h.rest h.has h.whole
  where
    go : (rest : List Step) → drop i steps ≡ map step_words rest → h.done ++ steps_real m f at rest (o.here + length h.done) ≡ steps_real m f at ss o.here → Put o p (steps_real m f at ss o.here)
    go [] is wh = put_as (sym (append-nil h.done) ∙ wh) h.put
    go (s ∷ rest) is wh = absurd (let z : ⊥ = omega (arith, l, ap length is, length-drop i steps) in z)

pub emitting_more : {F : Frame} {m : MProg} {f : MFn} {at : ℕ → ℕ} {ss : List Step} {steps : List (List ℕ)} {o p q : Code} {i : ℕ} (d : List ℕ) → Framed F m f at → Emitting m f at ss steps o p i → i < length steps
    → ((s : Step) → core_step s ≡ true → get_or steps i d ≡ step_words s → 4 * F.words < all → Put p q (reals p.here (lower (entry_at F) (step_place F) (bare F.words) (routine F.function) p.here s)))
    → Emitting m f at ss steps o q (i + 1)
emitting_more {F} {m} {f} {at} {ss} {steps} {o} {p} {q} {i} d fr h l step = go h.rest h.has h.core h.fits h.whole
  where
    go : (rest : List Step) → drop i steps ≡ map step_words rest → Each (λ s. core_step s ≡ true) rest → Each (StepFits m f) rest → h.done ++ steps_real m f at rest (o.here + length h.done) ≡ steps_real m f at ss o.here → Emitting m f at ss steps o q (i + 1)
    go [] is core ft wh = absurd (let z : ⊥ = omega (arith, l, ap length is, length-drop i steps) in z)
    go (s ∷ rest) is core ft wh =
        let next = next-is steps i is in
        let here = o.here + length h.done in
        let mine : List Instr = reals here (lower (entry_in m) at m f here s) in
        let small : 4 * F.words < all = omega (arith, fr.words, fr.small) in
        let l1 = reals-length here (lower (entry_in m) at m f here s) in
        let l2 = width_is (entry_in m) at m f here s in
        let z : o.here + length (h.done ++ mine) ≡ here + width m f s = omega (arith, length-append h.done mine, l1, l2) in
        record {
          rest = rest;
          done = h.done ++ mine;
          has = next.others;
          core = core.1;
          fits = ft.1;
          put = put_then h.done mine h.put (step s core.0 (next.item d) small)
              (λ k. ap (λ n. reals n (lower (entry_at F) (step_place F) (bare F.words) (routine F.function) n s)) k ∙ ap (λ r. reals here r) (lower-same fr here s core.0 ft.0));
          whole = append_assoc h.done mine (steps_real m f at rest (o.here + length (h.done ++ mine)))
              ∙ (ap (λ n. h.done ++ (mine ++ steps_real m f at rest n)) z ∙ (ap (λ r. h.done ++ r) (steps-cons m f at s rest here) ∙ wh));
        }

-- the table of where steps begin
pub starts-long : (m : MProg) (f : MFn) (ss : List Step) (q : ℕ) → length (starts m f ss q) ≡ length ss
starts-long m f [] q = refl
starts-long m f (s ∷ ss) q = ap suc (starts-long m f ss (q + width m f s))

starts-at : (m : MProg) (f : MFn) (ss : List Step) (q t : ℕ) → t < length ss → get_or (starts m f ss q) t 0 ≡ at_of m f ss q t
starts-at m f [] q t h = absurd (let z : ⊥ = omega arith in z)
starts-at m f (s ∷ ss) q zero h = refl
starts-at m f (s ∷ ss) q (suc t) h = starts-at m f ss (q + width m f s) t (omega arith)

framed : (F : Frame) {m : MProg} {f : MFn} (q : ℕ) → Tabled m F.words F.tables.entries.now → Head F.function f → Has F.tables.places.now F.first (starts m f f.code q) → Framed F m f (at_of m f f.code q)
framed F {m} {f} q t h k = record {
  words = t.words;
  small = t.small;
  no_arrays = t.no_arrays;
  places = h.places;
  steps = λ i l. has-at i k (omega (arith, l, starts-long m f f.code q)) ∙ starts-at m f f.code q i l;
  calls = t.calls;
}

-- the instructions of some functions that stand at place q
abbrev pub funs_real : MProg → List MFn → ℕ → List Instr
funs_real m fs q = reals q (funs_row (entry_in m) m fs q)

abbrev body_real : MProg → MFn → ℕ → List Instr
body_real m f q = steps_real m f (at_of m f f.code (q + pro_width f)) f.code (q + pro_width f)

funs-cons : (m : MProg) (f : MFn) (fs : List MFn) (q : ℕ) → (reals q (prologue q f) ++ body_real m f q) ++ funs_real m fs (q + fun_width m f) ≡ funs_real m (f ∷ fs) q
funs-cons m f fs q =
    let e = fun_width-is (entry_in m) m f q in
    let code = code_of (entry_in m) (at_of m f f.code (q + pro_width f)) m f f.code (q + pro_width f) in
    ap (λ l. l ++ funs_real m fs (q + fun_width m f)) (sym (reals-append q (prologue q f) code))
    ∙ (ap (λ n. reals q (fun_row (entry_in m) m f q) ++ reals (q + n) (funs_row (entry_in m) m fs (q + fun_width m f))) (sym e)
    ∙ sym (reals-append q (fun_row (entry_in m) m f q) (funs_row (entry_in m) m fs (q + fun_width m f))))

body-long : (m : MProg) (f : MFn) (q : ℕ) → length (reals q (prologue q f) ++ body_real m f q) ≡ fun_width m f
body-long m f q =
    let code = code_of (entry_in m) (at_of m f f.code (q + pro_width f)) m f f.code (q + pro_width f) in
    ap length (sym (reals-append q (prologue q f) code)) ∙ (reals-length q (fun_row (entry_in m) m f q) ∙ fun_width-is (entry_in m) m f q)

-- what is known between two functions
pub record EmittingAll (m : MProg) (fs : List MFn) (w places : List ℕ) (o p : Code) (left first : ℕ) : Type 0 where
  pub rest : List MFn
  pub done : List Instr
  pub stands : FunctionsAre w left rest
  pub fits : Each (FnFits m) rest
  pub table : Has places first (all_starts m rest (o.here + length done))
  pub put : Put o p done
  pub whole : done ++ funs_real m rest (o.here + length done) ≡ funs_real m fs o.here

pub functions-first : (m : MProg) (fs : List MFn) {w places : List ℕ} (o : Code) {count : ℕ} → FunctionsAre w count fs → Each (FnFits m) fs → Has places 0 (all_starts m fs o.here) → EmittingAll m fs w places o o count 0
functions-first m fs {w} {places} o {count} h k t = record {
  rest = fs;
  done = [];
  stands = h;
  fits = k;
  table = subst (λ n. Has places 0 (all_starts m fs n)) (sym (add-zero o.here)) t;
  put = put-none o;
  whole = ap (λ n. funs_real m fs n) (add-zero o.here);
}

pub functions_to : {m : MProg} {fs : List MFn} {w places : List ℕ} {o p : Code} {left left' first : ℕ} → left ≡ left' → EmittingAll m fs w places o p left first → EmittingAll m fs w places o p left' first
functions_to {m} {fs} {w} {places} {o} {p} {left} {left'} {first} e h = subst (λ n. EmittingAll m fs w places o p n first) e h

pub functions-last : {m : MProg} {fs : List MFn} {w places : List ℕ} {o p : Code} {first : ℕ} → EmittingAll m fs w places o p 0 first → Put o p (funs_real m fs o.here)
functions-last {m} {fs} {w} {places} {o} {p} {first} h = go h.rest h.stands h.whole
  where
    go : (rest : List MFn) → FunctionsAre w 0 rest → h.done ++ funs_real m rest (o.here + length h.done) ≡ funs_real m fs o.here → Put o p (funs_real m fs o.here)
    go [] st wh = put_as (sym (append-nil h.done) ∙ wh) h.put
    go (f ∷ rest) st wh = absurd (let l = st.long in let z : ⊥ = omega arith in z)

pub functions_more : (F : Frame) {m : MProg} {fs : List MFn} {w w' : List ℕ} {o p q r : Code} {left : ℕ} → Tabled m F.words F.tables.entries.now → EmittingAll m fs w F.tables.places.now o p (suc left) F.first → length F.tables.places.now < 18446744073709551616
    → ((f : MFn) → Has w 0 (fn_words f) → Head F.function f × (w' ≡ drop (length (fn_words f)) w))
    → (F.function.params ≤ 8 → Put p q (reals 0 (prologue 0 (routine F.function))))
    → ((f : MFn) (begin : ℕ → ℕ) (ss : List Step) → Framed F m f begin → StepsAre F.function.steps.now ss → Each (StepFits m f) ss → Put q r (steps_real m f begin ss q.here))
    → {first' : ℕ} → first' ≡ min (F.first + length F.function.steps.now) 18446744073709551615
    → EmittingAll m fs w' F.tables.places.now o r left first'
functions_more F {m} {fs} {w} {w'} {o} {p} {q} {r} {left} tb h pb cut enter steps {first'} fe = go h.rest h.stands h.fits h.table h.whole
  where
    go : (rest : List MFn) → FunctionsAre w (suc left) rest → Each (FnFits m) rest → Has F.tables.places.now F.first (all_starts m rest (o.here + length h.done)) → h.done ++ funs_real m rest (o.here + length h.done) ≡ funs_real m fs o.here → EmittingAll m fs w' F.tables.places.now o r left first'
    go [] st ft ta wh = absurd (let l = st.long in let z : ⊥ = omega arith in z)
    go (f ∷ rest) st ft ta wh =
        let here = o.here + length h.done in
        let (hd, behind) = cut f (first_function st) in
        let many : length F.function.steps.now ≡ length f.code = ap length hd.steps ∙ length-map f.code step_words in
        let few : F.function.params ≤ 8 = omega (arith, hd.params, st.core.0.params) in
        let begin : List Instr = reals here (prologue here f) in
        let mine : List Instr = begin ++ body_real m f here in
        let own = starts m f f.code (here + pro_width f) in
        let others = all_starts m rest (here + fun_width m f) in
        let fr = framed F (here + pro_width f) tb hd (has_left own others ta) in
        let entered : Put o q (h.done ++ begin) = put-more h.put (put_as (prologue-same hd here) (enter few)) in
        let lb : length begin ≡ pro_width f = reals-length here (prologue here f) in
        let z : o.here + length (h.done ++ begin) ≡ here + pro_width f = omega (arith, length-append h.done begin, lb) in
        let written = put_then (h.done ++ begin) (body_real m f here) entered (steps f (at_of m f f.code (here + pro_width f)) f.code fr (its-steps st hd) ft.0.steps)
        (λ k. ap (λ n. steps_real m f (at_of m f f.code (here + pro_width f)) f.code n) (k ∙ z)) in
        let y : o.here + length (h.done ++ mine) ≡ here + fun_width m f = omega (arith, length-append h.done mine, body-long m f here) in
        let right = has_right own others ta in
        let x : F.first + length own ≡ first' = omega (arith, fe, many, starts-long m f f.code (here + pro_width f), right.inside, pb) in
        record {
          rest = rest;
          done = h.done ++ mine;
          stands = next-functions st behind;
          fits = ft.1;
          table = has_to x (subst (λ n. Has F.tables.places.now (F.first + length own) (all_starts m rest n)) (sym y) right);
          put = put_as (append_assoc h.done begin (body_real m f here)) written;
          whole = append_assoc h.done mine (funs_real m rest (o.here + length (h.done ++ mine)))
              ∙ (ap (λ n. h.done ++ (mine ++ funs_real m rest n)) y ∙ (ap (λ l. h.done ++ l) (funs-cons m f rest here) ∙ wh));
        }
