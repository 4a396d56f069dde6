-- What the layers of a build give one another.
use Rattle.std.proofs.Common.{◌≡◌, ℕ, suc, ◌+◌, ◌<◌, ◌≤◌, leb, List, [], ◌∷◌, ◌++◌, length, get_or, take, sym, refl, ap, ◌∙◌, arith, leb→le}
use mathlib.Core.Option.{Option, some, none}
use Rattle.language.specs.Syntax.{opt, Fn, Prog, stage}
use Rattle.language.specs.Meaning.{Top, as_fn, all_tops}
use Rattle.std.proofs.lemmas.List.{take_at}
use Rattle.grammar.specs.Text.{Reads}
use Rattle.grammar.proofs.PieceKinds.{and_0}
use Rattle.steps.specs.Generate.{slots_of, scope, sorted, gen_fn, gen_prog}
use Rattle.steps.specs.Fits.{Each}
use Rattle.lower.specs.Lower.{others}
use Rattle.lower.specs.Core.{CoreFn}
use Rattle.generator.specs.ResolvedRows.{Routine, resolved_words, resolve_fn, resolve_prog}
use Rattle.generator.specs.StepRows.{base_of}
use Rattle.generator.specs.Peak.{peak}
use Rattle.bounds.proofs.Made.{pile-fits, places_are, each-routine}
use Rattle.bounds.proofs.Peak.{peak_needs}
use Rattle.bounds.proofs.CoreSteps.{core_programs}
use Rattle.bounds.proofs.NodesSize.{resolved-short}

pub text_short : (t : List ℕ) (p : Prog) → Reads t p → length t ≤ 32768
text_short t p r = leb→le (length t) 32768 (and_0 (leb (length t) 32768) _ r.small)

-- a larger pile will do
wider : (n : ℕ) (rs : List Routine) → 1022 ≤ n → Each (λ r. peak (base_of r) r.nodes [] (base_of r) ≤ base_of r + 1022) rs → Each (λ r. peak (base_of r) r.nodes [] (base_of r) ≤ base_of r + n) rs
wider n [] h e = tt
wider n (r ∷ rs) h e = (omega (arith, e.0), wider n rs h e.1)

pub pile-wide : (t : List ℕ) (p : Prog) (n : ℕ) → Reads t p → 1022 ≤ n → Each (λ r. peak (base_of r) r.nodes [] (base_of r) ≤ base_of r + n) (resolve_prog p).routines
pile-wide t p n r h = wider n (resolve_prog p).routines h (pile-fits t p r)

pub resolved-small : (t : List ℕ) (p : Prog) (w : List ℕ) → Reads t p → w ≡ resolved_words (resolve_prog p) → length w < 1073741824
resolved-small t p w r e = omega (arith, ap length e, resolved-short t p r, text_short t p r)

-- as many functions are resolved as are generated
sorted_long : {C D : Type 0} (f : Top → Fn → C) (g : Top → Fn → D) (ts : List Top) → length (sorted as_fn f ts) ≡ length (sorted as_fn g ts)
sorted_long f g [] = refl
sorted_long f g (t ∷ ts) = go (as_fn t) (sorted_long f g ts)
  where
    go : (o : Option Fn) → length (sorted as_fn f ts) ≡ length (sorted as_fn g ts) → length (opt o (sorted as_fn f ts) (λ a. f t a ∷ sorted as_fn f ts)) ≡ length (opt o (sorted as_fn g ts) (λ a. g t a ∷ sorted as_fn g ts))
    go none e = e
    go (some a) e = ap suc e

pub as_many : (p : Prog) → length (resolve_prog p).routines ≡ length (others (gen_prog p).funs)
as_many p = sorted_long (λ t g. resolve_fn p t.file g) (λ t g. gen_fn p t.file g) (all_tops p 0 0)

-- the front of a slice that was cut
pub front-is : {w a ws : List ℕ} {n : ℕ} (b : List ℕ) → w ≡ a ++ b → length a ≡ n → take n w ≡ ws → a ≡ ws
front-is {w} {a} {ws} {n} b e l t = sym (take_at a b n l) ∙ ap (take n) (sym e) ∙ t

-- no place has a number beyond 32 bits
low_all : (n : ℕ) (rs : List Routine) → n ≤ 1022 → Each (λ r. base_of r ≤ 1022) rs → Each (λ r. base_of r + n + 2 < 4294967296) rs
low_all n [] h e = tt
low_all n (r ∷ rs) h e = (omega (arith, e.0), low_all n rs h e.1)

pub bases_low : (t : List ℕ) (p : Prog) (n : ℕ) → Reads t p → stage p ≡ 0 → n ≤ 1022 → Each (λ r. base_of r + n + 2 < 4294967296) (resolve_prog p).routines
bases_low t p n r s h =
    low_all n (resolve_prog p).routines h
    (each-routine p (λ r. base_of r ≤ 1022) CoreFn (λ f g k. omega (arith, k.places, places_are p f g, peak_needs (scope p f (slots_of g)) g.body (base_of (resolve_fn p f g)))) (all_tops p 0 0) (core_programs t p r s).funs)

-- the words of a row's start: how many words there are at the top, main's number, and how many functions
pub record Head (p : Prog) (ws : List ℕ) : Type 0 where
  pub words : get_or ws 0 0 ≡ (gen_prog p).words
  pub main : get_or ws 1 0 ≡ (resolve_prog p).main
  pub count : get_or ws 2 0 ≡ length (others (gen_prog p).funs)

pub head-is : {w ws : List ℕ} (p : Prog) → w ≡ resolved_words (resolve_prog p) → ws ≡ take 3 w → Head p ws
head-is p e h =
    let is = h ∙ ap (take 3) e in
    record { words = ap (λ l. get_or l 0 0) is; main = ap (λ l. get_or l 1 0) is; count = ap (λ l. get_or l 2 0) is ∙ as_many p }
