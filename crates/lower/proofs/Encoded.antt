-- The whole row fits, so its words do what its instructions say.
use mathlib.Core.Path.{◌≡◌, refl, sym, ap, subst, ◌∙◌}
use mathlib.Core.List.{List, [], ◌∷◌, ◌++◌}
use mathlib.Core.Option.{some}
use Prim.Native.Nat.{ℕ, zero, suc, ◌+◌, ◌≤◌, ◌<◌}
use native.Mathlib.Omega.{arith}
use native.Mathlib.Nat.{add-zero, zero-add}
use lib.ListN.{length, length-append}
use Rattle.language.specs.Syntax.{nth}
use Rattle.processor.specs.Machine.{Machine, does}
use Rattle.lower.specs.Lower.{at_of, code_of, entry_in, entry_of, fun_of, fun_row, fun_width, funs_row, lower, others, pro_width, prologue, row_of, slots, width, words_of}
use Rattle.lower.proofs.InRow.{Firm, Neat, past}
use Rattle.steps.specs.Steps.{Step, MFn, MProg}
use Rattle.lower.proofs.Lists.{none-some}
use Rattle.lower.proofs.Instructions.{LI, to_real}
use Rattle.lower.proofs.RowPlaces.{past_is, width_is, fun_width-is}
use Rattle.processor.specs.Instr.{encode, exec}
use Rattle.processor.proofs.Coded.{does-encode}
use Rattle.lower.proofs.FieldsFit.{RowFits, both_fit, step_fits, pro_fits}

coded_from : (is : List LI) (p : ℕ) → RowFits p is → (j : ℕ) (i : LI) → nth is j ≡ some i → (w : ℕ) × (nth (words_of p is) j ≡ some w) × ((m : Machine) → does m w ≡ exec (to_real (p + j) i) m)
coded_from [] p f j i h = none-some i h
coded_from (x ∷ is) p f zero i h = let e : x ≡ i = cc in (encode (to_real p x), refl, λ m. does-encode m (to_real p x) f.0 ∙ (ap (λ y. exec (to_real p y) m) e ∙ ap (λ q. exec (to_real q i) m) (sym (add-zero p))))
coded_from (x ∷ is) p f (suc j) i h = let (w, k, d) = coded_from is (suc p) f.1 j i h in let e : suc p + j ≡ p + suc j = omega arith in (w, k, λ m. d m ∙ ap (λ q. exec (to_real q i) m) e)

pub coded-row : (row : List LI) → RowFits 0 row → (p : ℕ) (i : LI) → nth row p ≡ some i → (w : ℕ) × (nth (words_of 0 row) p ≡ some w) × ((m : Machine) → does m w ≡ exec (to_real p i) m)
coded-row row f p i h = let (w, k, d) = coded_from row 0 f p i h in (w, k, λ m. d m ∙ ap (λ q. exec (to_real q i) m) (zero-add p))

-- places in the row are no further than its end
at_low : (en at : ℕ → ℕ) (m : MProg) (f : MFn) (ss : List Step) (q i : ℕ) → at_of m f ss q i ≤ q + length (code_of en at m f ss q)
at_low en at m f [] q i = omega arith
at_low en at m f (s ∷ ss) q zero = omega arith
at_low en at m f (s ∷ ss) q (suc i) = omega (arith, at_low en at m f ss (q + width m f s) i, width_is en at m f q s, length-append (lower en at m f q s) (code_of en at m f ss (q + width m f s)))

entry_low : (en : ℕ → ℕ) (m : MProg) (fs : List MFn) (q g : ℕ) → entry_of m fs q g ≤ q + length (funs_row en m fs q)
entry_low en m [] q g = omega arith
entry_low en m (f ∷ fs) q zero = omega arith
entry_low en m (f ∷ fs) q (suc g) = omega (arith, entry_low en m fs (q + fun_width m f) g, fun_width-is en m f q, length-append (fun_row en m f q) (funs_row en m fs (q + fun_width m f)))

abbrev Few : MProg → Type 0
Few m = (g : ℕ) (h : MFn) → fun_of m g ≡ some h → h.params ≤ 8

code_fits : (en at : ℕ → ℕ) (m : MProg) (f : MFn) → Neat m f → ((g : ℕ) → en g < 262144) → ((t : ℕ) → at t < 262144) → Few m → (ss : List Step) (q : ℕ) → q + length (code_of en at m f ss q) ≤ 262144 → ((i : ℕ) (s : Step) → nth ss i ≡ some s → Firm m (slots f) s) → RowFits q (code_of en at m f ss q)
code_fits en at m f nt a b c [] q h n = tt
code_fits en at m f nt a b c (s ∷ ss) q h n =
    let l : length (lower en at m f q s ++ code_of en at m f ss (q + width m f s)) ≡ length (lower en at m f q s) + length (code_of en at m f ss (q + width m f s)) = length-append (lower en at m f q s) (code_of en at m f ss (q + width m f s)) in
    let w : length (lower en at m f q s) ≡ width m f s = width_is en at m f q s in
    let e : past q (lower en at m f q s) ≡ q + width m f s = past_is q (lower en at m f q s) ∙ ap (λ x. q + x) w in
    both_fit q (lower en at m f q s) (code_of en at m f ss (q + width m f s)) (step_fits en at m f nt a b c q s (omega arith) (n 0 s refl)) (subst (λ x. RowFits x (code_of en at m f ss (q + width m f s))) (sym e) (code_fits en at m f nt a b c ss (q + width m f s) (omega arith) (λ i t k. n (suc i) t k)))

fun_fits : (en : ℕ → ℕ) (m : MProg) (f : MFn) → ((g : ℕ) → en g < 262144) → Few m → Neat m f → (q : ℕ) → q + length (fun_row en m f q) < 262144 → RowFits q (fun_row en m f q)
fun_fits en m f a c n q h =
    let r : ℕ = q + pro_width f in
    let at : ℕ → ℕ = at_of m f f.code r in
    let l : length (fun_row en m f q) ≡ length (prologue q f) + length (code_of en at m f f.code r) = length-append (prologue q f) (code_of en at m f f.code r) in
    let e : past q (prologue q f) ≡ r = past_is q (prologue q f) in
    let z : r + length (code_of en at m f f.code r) < 262144 = omega arith in
    let b : (t : ℕ) → at t < 262144 = λ t. omega (arith, at_low en at m f f.code r t) in
    both_fit q (prologue q f) (code_of en at m f f.code r) (pro_fits en at m f n a b c q (omega arith)) (subst (λ x. RowFits x (code_of en at m f f.code r)) (sym e) (code_fits en at m f n a b c f.code r (omega arith) n.firm))

funs-fit : (en : ℕ → ℕ) (m : MProg) → ((g : ℕ) → en g < 262144) → Few m → (fs : List MFn) → ((g : ℕ) (f : MFn) → nth fs g ≡ some f → Neat m f) → (q : ℕ) → q + length (funs_row en m fs q) < 262144 → RowFits q (funs_row en m fs q)
funs-fit en m a c [] n q h = tt
funs-fit en m a c (f ∷ fs) n q h =
    let l : length (fun_row en m f q ++ funs_row en m fs (q + fun_width m f)) ≡ length (fun_row en m f q) + length (funs_row en m fs (q + fun_width m f)) = length-append (fun_row en m f q) (funs_row en m fs (q + fun_width m f)) in
    let w : length (fun_row en m f q) ≡ fun_width m f = fun_width-is en m f q in
    let e : past q (fun_row en m f q) ≡ q + fun_width m f = past_is q (fun_row en m f q) ∙ ap (λ x. q + x) w in
    both_fit q (fun_row en m f q) (funs_row en m fs (q + fun_width m f)) (fun_fits en m f a c (n 0 f refl) q (omega arith)) (subst (λ x. RowFits x (funs_row en m fs (q + fun_width m f))) (sym e) (funs-fit en m a c fs (λ g t k. n (suc g) t k) (q + fun_width m f) (omega arith)))

entries_low : (m : MProg) (q : ℕ) → 6 + length (funs_row (entry_in m) m (others m.funs) 6) ≤ q → (g : ℕ) → entry_in m g ≤ q
entries_low m q h zero = omega arith
entries_low m q h (suc g) = omega (arith, entry_low (entry_in m) m (others m.funs) 6 g)

pub row_fits : (m : MProg) (main : ℕ) → ((g : ℕ) (f : MFn) → fun_of m g ≡ some f → Neat m f) → length (row_of m main) < 262144 → RowFits 0 (row_of m main)
row_fits m main n h =
    let a : (g : ℕ) → entry_in m g < 262144 = λ g. omega (arith, entries_low m 262143 (omega arith) g) in
    let z : entry_in m main < 262144 = a main in
    (omega arith, (omega arith, (omega arith, (omega arith, (omega arith, (tt, funs-fit (entry_in m) m a (λ g f k. (n g f k).few) (others m.funs) (λ g f k. n (suc g) f k) 6 (omega arith)))))))
