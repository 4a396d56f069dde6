-- Where steps and functions begin, found one after another.
use Rattle.std.proofs.Common.{◌≡◌, ℕ, suc, ◌+◌, ◌-◌, ◌*◌, ◌/◌, ◌<◌, ◌≤◌, min, true, List, [], ◌∷◌, ◌++◌, length, map, get_or, take, drop, sym, refl, ap, ◌∙◌, subst, append_assoc, append-nil, arith, length-append, length-drop, get_or-take}
use Rattle.language.specs.Words.{all}
use Rattle.rows.specs.Trees.{list_row}
use Rattle.rows.specs.Has.{Has}
use Rattle.rows.specs.Row.{Pushed}
use Rattle.rows.specs.declared.row.Row.{Row}
use Rattle.rows.proofs.Having.{has_left, has-at, has-next}
use Rattle.rows.proofs.Writing.{pushed_more, pushed_none}
use Rattle.steps.specs.Steps.{Step, MFn, MProg}
use Rattle.generator.specs.StepRows.{step_words, fn_words}
use Rattle.lower.specs.Lower.{lower, width, pro_width, fun_width, prologue, at_of, code_of, entry_of}
use Rattle.lower.specs.Core.{core_step}
use Rattle.lower.proofs.RowPlaces.{width_is, code-width}
use Rattle.std.specs.Simd.{first_chunks}
use Rattle.std.proofs.lemmas.List.{take_all, drop-drop}
use Rattle.steps.specs.Fits.{Each}
use Rattle.middle.proofs.Back.{long}
use Rattle.middle.proofs.Chunks.{by_chunks, next-is, behind-has}
use Rattle.assembler.specs.declared.function.Function.{Function}
use Rattle.assembler.specs.Frames.{routine}
use Rattle.assembler.proofs.Widths.{entering_long}
use Rattle.assembler.specs.Tables.{starts, begins, all_starts, StepsAre, FunctionsAre, Head}

at-past : (m : MProg) (f : MFn) (ss : List Step) (q : ℕ) → q ≤ at_of m f ss q (length ss)
at-past m f [] q = omega arith
at-past m f (s ∷ ss) q = omega (arith, at-past m f ss (q + width m f s))

-- what is known between two steps
pub record Measuring (m : MProg) (f : MFn) (ss : List Step) (steps : List (List ℕ)) (start : ℕ) (o p : Row) (i place : ℕ) : Type 0 where
  pub rest : List Step
  pub done : List ℕ
  pub has : drop i steps ≡ map step_words rest
  pub core : Each (λ s. core_step s ≡ true) rest
  pub goes_on : at_of m f rest place (length rest) ≡ at_of m f ss start (length ss)
  pub pushed : Pushed o p done
  pub whole : done ++ starts m f rest place ≡ starts m f ss start

pub measuring_first : (m : MProg) (f : MFn) (ss : List Step) {steps : List (List ℕ)} (start : ℕ) (o : Row) → StepsAre steps ss → Measuring m f ss steps start o o 0 start
measuring_first m f ss {steps} start o h = record { rest = ss; done = []; has = h.is; core = h.core; goes_on = refl; pushed = pushed_none o; whole = refl }

pub measuring_more : {m : MProg} {f : MFn} {ss : List Step} {steps : List (List ℕ)} {start : ℕ} {o p q : Row} {i place place' x : ℕ} (d : List ℕ) → Measuring m f ss steps start o p i place → at_of m f ss start (length ss) < all → i < length steps → Pushed p q (place ∷ []) → ((s : Step) → core_step s ≡ true → get_or steps i d ≡ step_words s → x ≡ width m f s) → place' ≡ min (place + x) 4294967295 → Measuring m f ss steps start o q (i + 1) place'
measuring_more {m} {f} {ss} {steps} {start} {o} {p} {q} {i} {place} {place'} {x} d h small l g wide e = go h.rest h.has h.core h.goes_on h.whole
  where
    go : (rest : List Step) → drop i steps ≡ map step_words rest → Each (λ s. core_step s ≡ true) rest → at_of m f rest place (length rest) ≡ at_of m f ss start (length ss) → h.done ++ starts m f rest place ≡ starts m f ss start → Measuring m f ss steps start o q (i + 1) place'
    go [] is core k wh = absurd (let z : ⊥ = omega (arith, l, ap length is, length-drop i steps) in z)
    go (s ∷ rest) is core k wh =
        let next = next-is steps i is in
        let y : x ≡ width m f s = wide s core.0 (next.item d) in
        let z : place' ≡ place + width m f s = omega (arith, e, y, small, k, at-past m f rest (place + width m f s)) in
        record {
          rest = rest;
          done = h.done ++ (place ∷ []);
          has = next.others;
          core = core.1;
          goes_on = ap (λ n. at_of m f rest n (length rest)) z ∙ k;
          pushed = pushed_more h.pushed g;
          whole = append_assoc h.done (place ∷ []) (starts m f rest place') ∙ (ap (λ n. h.done ++ (place ∷ starts m f rest n)) z ∙ wh);
        }

pub measuring_last : {m : MProg} {f : MFn} {ss : List Step} {steps : List (List ℕ)} {start : ℕ} {o p : Row} {i place : ℕ} → Measuring m f ss steps start o p i place → length steps ≤ i → (place ≡ at_of m f ss start (length ss)) × Pushed o p (starts m f ss start)
measuring_last {m} {f} {ss} {steps} {start} {o} {p} {i} {place} h l = go h.rest h.has h.goes_on h.whole
  where
    go : (rest : List Step) → drop i steps ≡ map step_words rest → at_of m f rest place (length rest) ≡ at_of m f ss start (length ss) → h.done ++ starts m f rest place ≡ starts m f ss start → (place ≡ at_of m f ss start (length ss)) × Pushed o p (starts m f ss start)
    go [] is k wh = (k, subst (λ v. Pushed o p v) (sym (append-nil h.done) ∙ wh) h.pushed)
    go (s ∷ rest) is k wh = absurd (let z : ⊥ = omega (arith, l, ap length is, length-drop i steps) in z)

-- how long the code of a function is
pub at-end : (en at : ℕ → ℕ) (m : MProg) (f : MFn) (ss : List Step) (q : ℕ) → at_of m f ss q (length ss) ≡ q + length (code_of en at m f ss q)
at-end en at m f [] q = omega arith
at-end en at m f (s ∷ ss) q =
    let a = length-append (lower en at m f q s) (code_of en at m f ss (q + width m f s)) in
    omega (arith, a, width_is en at m f q s, at-end en at m f ss (q + width m f s))

pub fun_end : (m : MProg) (f : MFn) (q : ℕ) → at_of m f f.code (q + pro_width f) (length f.code) ≡ q + fun_width m f
fun_end m f q =
    let none : ℕ → ℕ = λ g. 0 in
    let a = length-append (prologue 0 f) (code_of none (at_of m f f.code (0 + pro_width f)) m f f.code (0 + pro_width f)) in
    let b = code-width none none none (at_of m f f.code (0 + pro_width f)) m f f.code (q + pro_width f) (0 + pro_width f) in
    omega (arith, a, b, at-end none none m f f.code (q + pro_width f))

entry_past : (m : MProg) (fs : List MFn) (q : ℕ) → q ≤ entry_of m fs q (length fs)
entry_past m [] q = omega arith
entry_past m (f ∷ fs) q = omega (arith, entry_past m fs (q + fun_width m f))

-- the first of the functions, and the others
pub first_function : {w : List ℕ} {left : ℕ} {f : MFn} {fs : List MFn} → FunctionsAre w left (f ∷ fs) → Has w 0 (fn_words f)
first_function {w} {left} {f} {fs} h = has_left (fn_words f) (list_row fn_words fs) h.has

steps-long : (ss : List Step) → length (list_row step_words ss) ≡ 5 * length ss
steps-long [] = refl
steps-long (s ∷ ss) = let a = length-append (step_words s) (list_row step_words ss) in omega (arith, a, long s, steps-long ss)

-- there is one, if there are any
pub some-function : {w : List ℕ} {left : ℕ} (fs : List MFn) → FunctionsAre w (suc left) fs → ((f : MFn) → Has w 0 (fn_words f) → ⊥) → ⊥
some-function [] h n = let l = h.long in omega arith
some-function (f ∷ fs) h n = n f (first_function h)

pub its-steps : {w : List ℕ} {left : ℕ} {g : Function} {f : MFn} {fs : List MFn} → FunctionsAre w left (f ∷ fs) → Head g f → StepsAre g.steps.now f.code
its-steps h k = record { is = k.steps; core = h.core.0.steps }

pub next-functions : {w w' : List ℕ} {left : ℕ} {f : MFn} {fs : List MFn} → FunctionsAre w (suc left) (f ∷ fs) → w' ≡ drop (length (fn_words f)) w → FunctionsAre w' left fs
next-functions {w} {w'} {left} {f} {fs} h e = record { has = behind-has (fn_words f) (list_row fn_words fs) h.has e; long = let l = h.long in omega arith; core = h.core.1 }

-- what was cut off a row is the function that stands first there
pub record Cut (row : List ℕ) (g : Function) (r : List ℕ) : Type 0 where
  pub head : List ℕ
  pub rest : List ℕ
  pub chunks : List (List ℕ)
  pub count : ℕ
  pub head_is : head ≡ take 4 row
  pub rest_is : rest ≡ drop 4 row
  pub chunks_is : chunks ≡ first_chunks 5 (length rest / 5) rest
  pub chunks_long : length chunks ≡ length rest / 5
  pub count_is : count ≡ min (length chunks) (get_or head 3 0)
  pub params_is : g.params ≡ get_or head 0 0
  pub vars_is : g.vars ≡ get_or head 1 0
  pub places_is : g.places ≡ get_or head 2 0
  pub steps_is : g.steps.now ≡ take count chunks
  pub behind : r ≡ take (length rest - 5 * count) (drop (5 * count) rest)

word-of : (row head : List ℕ) (k : ℕ) → head ≡ take 4 row → k < 4 → get_or head k 0 ≡ get_or row k 0
word-of row head k e l = ap (λ w. get_or w k 0) e ∙ get_or-take 4 row k 0 l

pub cut-is : {row : List ℕ} {g : Function} {r : List ℕ} → Cut row g r → (f : MFn) → Has row 0 (fn_words f) → Head g f × (r ≡ drop (length (fn_words f)) row)
cut-is {row} {g} {r} c f h =
    let code : Has row 4 (list_row step_words f.code) = has-next (has-next (has-next (has-next h))) in
    let sl = steps-long f.code in
    let inside = code.inside in
    let rl : length c.rest ≡ length row - 4 = omega (arith, ap length c.rest_is, length-drop 4 row) in
    let n : get_or c.head 3 0 ≡ length f.code = word-of row c.head 3 c.head_is (omega arith) ∙ has-at 3 h (omega arith) in
    let m : c.count ≡ length f.code = let k = c.count_is in let l = c.chunks_long in omega arith in (
      record {
        params = c.params_is ∙ (word-of row c.head 0 c.head_is (omega arith) ∙ has-at 0 h (omega arith));
        vars = c.vars_is ∙ (word-of row c.head 1 c.head_is (omega arith) ∙ has-at 1 h (omega arith));
        places = c.places_is ∙ (word-of row c.head 2 c.head_is (omega arith) ∙ has-at 2 h (omega arith));
        steps = c.steps_is ∙ (ap (λ k. take k c.chunks) m ∙ (ap (take (length f.code)) c.chunks_is ∙ by_chunks step_words 5 long f.code c.rest code.rest (length c.rest / 5) (c.rest_is ∙ code.is) (omega arith)));
      },
      c.behind
          ∙ (take_all (length c.rest - 5 * c.count) (drop (5 * c.count) c.rest) (omega (arith, length-drop (5 * c.count) c.rest))
          ∙ (ap (λ l. drop (5 * c.count) l) c.rest_is ∙ (drop-drop (5 * c.count) 4 row ∙ ap (λ k. drop k row) (let e : 4 + 5 * c.count ≡ length (fn_words f) = omega arith in e)))),
    )

-- what is known between two functions
pub record MeasuringAll (m : MProg) (fs : List MFn) (w : List ℕ) (o p q r : Row) (left place : ℕ) : Type 0 where
  pub rest : List MFn
  pub begun : List ℕ
  pub done : List ℕ
  pub stands : FunctionsAre w left rest
  pub goes_on : entry_of m rest place (length rest) ≡ entry_of m fs 6 (length fs)
  pub entries : Pushed o p begun
  pub places : Pushed q r done
  pub whole_entries : begun ++ begins m rest place ≡ begins m fs 6
  pub whole_places : done ++ all_starts m rest place ≡ all_starts m fs 6

pub all_first : (m : MProg) (fs : List MFn) {w : List ℕ} (o q : Row) {count : ℕ} → FunctionsAre w count fs → MeasuringAll m fs w o o q q count 6
all_first m fs {w} o q {count} h = record { rest = fs; begun = []; done = []; stands = h; goes_on = refl; entries = pushed_none o; places = pushed_none q; whole_entries = refl; whole_places = refl }

pub all_to : {m : MProg} {fs : List MFn} {w : List ℕ} {o p q r : Row} {left left' place : ℕ} → left ≡ left' → MeasuringAll m fs w o p q r left place → MeasuringAll m fs w o p q r left' place
all_to {m} {fs} {w} {o} {p} {q} {r} {left} {left'} {place} e h = subst (λ n. MeasuringAll m fs w o p q r n place) e h

pub all-last : {m : MProg} {fs : List MFn} {w : List ℕ} {o p q r : Row} {place : ℕ} → MeasuringAll m fs w o p q r 0 place → (place ≡ entry_of m fs 6 (length fs)) × Pushed o p (begins m fs 6) × Pushed q r (all_starts m fs 6)
all-last {m} {fs} {w} {o} {p} {q} {r} {place} h = go h.rest h.stands h.goes_on h.whole_entries h.whole_places
  where
    go : (rest : List MFn) → FunctionsAre w 0 rest → entry_of m rest place (length rest) ≡ entry_of m fs 6 (length fs) → h.begun ++ begins m rest place ≡ begins m fs 6 → h.done ++ all_starts m rest place ≡ all_starts m fs 6 → (place ≡ entry_of m fs 6 (length fs)) × Pushed o p (begins m fs 6) × Pushed q r (all_starts m fs 6)
    go [] st k we wp = (k, subst (λ l. Pushed o p l) (sym (append-nil h.begun) ∙ we) h.entries, subst (λ l. Pushed q r l) (sym (append-nil h.done) ∙ wp) h.places)
    go (f ∷ rest) st k we wp = absurd (let l = st.long in let z : ⊥ = omega arith in z)

-- one function more, by what the parts of the loop's body say of it
pub all_more : {m : MProg} {fs : List MFn} {w w' : List ℕ} {o p p' q r r' : Row} {left place start place' x : ℕ} {g : Function} → MeasuringAll m fs w o p q r (suc left) place → entry_of m fs 6 (length fs) < all → ((f : MFn) → Has w 0 (fn_words f) → Head g f × (w' ≡ drop (length (fn_words f)) w)) → Pushed p p' (place ∷ [])
    → (g.params ≤ 8 → pro_width (routine g) < all → x ≡ pro_width (routine g)) → start ≡ min (place + x) 4294967295
    → ((f : MFn) (ss : List Step) → StepsAre g.steps.now ss → at_of m f ss start (length ss) < all → (place' ≡ at_of m f ss start (length ss)) × Pushed r r' (starts m f ss start))
    → MeasuringAll m fs w' o p' q r' left place'
all_more {m} {fs} {w} {w'} {o} {p} {p'} {q} {r} {r'} {left} {place} {start} {place'} {x} {g} h small cut pushed wide e steps = go h.rest h.stands h.goes_on h.whole_entries h.whole_places
  where
    go : (rest : List MFn) → FunctionsAre w (suc left) rest → entry_of m rest place (length rest) ≡ entry_of m fs 6 (length fs) → h.begun ++ begins m rest place ≡ begins m fs 6 → h.done ++ all_starts m rest place ≡ all_starts m fs 6 → MeasuringAll m fs w' o p' q r' left place'
    go [] st k we wp = absurd (let l = st.long in let z : ⊥ = omega arith in z)
    go (f ∷ rest) st k we wp =
        let (hd, behind) = cut f (first_function st) in
        let pw : pro_width (routine g) ≡ pro_width f = omega (arith, entering_long (routine g), entering_long f, hd.params, hd.vars) in
        let past = entry_past m rest (place + fun_width m f) in
        let fe2 = fun_end m f place in
        let ap2 = at-past m f f.code (place + pro_width f) in
        let few : g.params ≤ 8 = omega (arith, hd.params, st.core.0.params) in
        let y : x ≡ pro_width (routine g) = wide few (omega (arith, pw, past, small, k, fe2, ap2)) in
        let z : start ≡ place + pro_width f = omega (arith, e, y, pw, past, small, k, fe2, ap2) in
        let (u, v) = steps f f.code (its-steps st hd) (subst (λ n. at_of m f f.code n (length f.code) < all) (sym z) (omega (arith, past, small, k, fe2))) in
        let u2 : place' ≡ place + fun_width m f = u ∙ (ap (λ n. at_of m f f.code n (length f.code)) z ∙ fe2) in
        record {
          rest = rest;
          begun = h.begun ++ (place ∷ []);
          done = h.done ++ starts m f f.code (place + pro_width f);
          stands = next-functions st behind;
          goes_on = ap (λ n. entry_of m rest n (length rest)) u2 ∙ k;
          entries = pushed_more h.entries pushed;
          places = pushed_more h.places (subst (λ n. Pushed r r' (starts m f f.code n)) z v);
          whole_entries = append_assoc h.begun (place ∷ []) (begins m rest place') ∙ (ap (λ n. h.begun ++ (place ∷ begins m rest n)) u2 ∙ we);
          whole_places = append_assoc h.done (starts m f f.code (place + pro_width f)) (all_starts m rest place') ∙ (ap (λ n. h.done ++ (starts m f f.code (place + pro_width f) ++ all_starts m rest n)) u2 ∙ wp);
        }
