-- What the fold makes of each function is the function in steps, word by word of their rows; and its pile stays low.
use mathlib.Core.Path.{◌≡◌, refl, sym, ap, ◌∙◌}
use mathlib.Core.List.{List, [], ◌∷◌, ◌++◌}
use mathlib.Core.Option.{Option, some, none}
use Prim.Native.Nat.{ℕ, ◌+◌, ◌≤◌}
use native.Mathlib.Omega.{arith}
use lib.ListN.{length}
use Rattle.language.specs.Syntax.{opt, Name, Fn, Prog}
use Rattle.language.specs.Meaning.{Top, all_tops, as_fn}
use Rattle.rows.specs.Trees.{list_row}
use Rattle.steps.specs.Steps.{Step, MFn}
use Rattle.steps.specs.Generate.{words_of, slots_from, slots_of, scope, need_b, gen_body, sorted, gen_fn}
use Rattle.steps.specs.Fits.{Each}
use Rattle.steps.proofs.FitsHold.{slot_count}
use Rattle.steps.proofs.PlacesBound.{room-holds}
use Rattle.generator.specs.ResolvedRows.{Routine, resolve_fn}
use Rattle.generator.specs.StepRows.{step_words, fn_words, base_of, made}
use Rattle.generator.proofs.EmitStmt.{emits_body}
use Rattle.bounds.specs.Bounds.{MadeRight, PileFits}
use Rattle.bounds.proofs.Peak.{peak_needs}

-- a function's row by its parts
row-eq : (a v : ℕ) {n m : ℕ} {c d : List Step} → n ≡ m → c ≡ d → ◌≡◌ {A = List ℕ} (a ∷ v ∷ n ∷ length c ∷ list_row step_words c) (a ∷ v ∷ m ∷ length d ∷ list_row step_words d)
row-eq a v e f = cc

-- the first free place is the same in both
pub base-is : (p : Prog) (f : Name) (g : Fn) → base_of (resolve_fn p f g) ≡ words_of (slots_of g)
base-is p f g = sym (slot_count g.params g.vars g.arrs).0

pub places_are : (p : Prog) (f : Name) (g : Fn) → (made (resolve_fn p f g)).places ≡ (gen_fn p f g).places
places_are p f g = peak_needs (scope p f (slots_of g)) g.body (base_of (resolve_fn p f g)) ∙ ap (λ b. b + need_b (scope p f (slots_of g)) g.body) (base-is p f g)

code_is : (p : Prog) (f : Name) (g : Fn) → (made (resolve_fn p f g)).code ≡ (gen_fn p f g).code
code_is p f g = emits_body (scope p f (slots_of g)) g.body (base_of (resolve_fn p f g)) ∙ ap (λ b. gen_body (scope p f (slots_of g)) g.body b) (base-is p f g)

fn-row-is : (p : Prog) (f : Name) (g : Fn) → fn_words (made (resolve_fn p f g)) ≡ fn_words (gen_fn p f g)
fn-row-is p f g = row-eq (words_of (slots_from g.params [] [])) (length g.vars) (places_are p f g) (code_is p f g)

rows_are : (p : Prog) (ts : List Top) → list_row (λ r. fn_words (made r)) (sorted as_fn (λ t g. resolve_fn p t.file g) ts) ≡ list_row fn_words (sorted as_fn (λ t g. gen_fn p t.file g) ts)
rows_are p [] = refl
rows_are p (t ∷ ts) = go (as_fn t) (rows_are p ts)
  where
    go : (o : Option Fn) → list_row (λ r. fn_words (made r)) (sorted as_fn (λ t g. resolve_fn p t.file g) ts) ≡ list_row fn_words (sorted as_fn (λ t g. gen_fn p t.file g) ts) → list_row (λ r. fn_words (made r)) (opt o (sorted as_fn (λ t g. resolve_fn p t.file g) ts) (λ g. resolve_fn p t.file g ∷ sorted as_fn (λ t g. resolve_fn p t.file g) ts)) ≡ list_row fn_words (opt o (sorted as_fn (λ t g. gen_fn p t.file g) ts) (λ g. gen_fn p t.file g ∷ sorted as_fn (λ t g. gen_fn p t.file g) ts))
    go none h = h
    go (some g) h = ap (λ l. l ++ list_row (λ r. fn_words (made r)) (sorted as_fn (λ t g. resolve_fn p t.file g) ts)) (fn-row-is p t.file g) ∙ ap (λ l. fn_words (gen_fn p t.file g) ++ l) h

pub made-right : MadeRight
made-right p = rows_are p (all_tops p 0 0)

-- what follows for each routine from what holds of its function in steps
pub each-routine : (p : Prog) (P : Routine → Type 0) (Q : MFn → Type 0) → ((f : Name) (g : Fn) → Q (gen_fn p f g) → P (resolve_fn p f g)) → (ts : List Top) → Each Q (sorted as_fn (λ t g. gen_fn p t.file g) ts) → Each P (sorted as_fn (λ t g. resolve_fn p t.file g) ts)
each-routine p P Q k [] a = tt
each-routine p P Q k (t ∷ ts) a = go (as_fn t) a (each-routine p P Q k ts)
  where
    go : (o : Option Fn) → Each Q (opt o (sorted as_fn (λ t g. gen_fn p t.file g) ts) (λ g. gen_fn p t.file g ∷ sorted as_fn (λ t g. gen_fn p t.file g) ts)) → (Each Q (sorted as_fn (λ t g. gen_fn p t.file g) ts) → Each P (sorted as_fn (λ t g. resolve_fn p t.file g) ts)) → Each P (opt o (sorted as_fn (λ t g. resolve_fn p t.file g) ts) (λ g. resolve_fn p t.file g ∷ sorted as_fn (λ t g. resolve_fn p t.file g) ts))
    go none h r = r h
    go (some g) h r = (k t.file g h.0, r h.1)

pub pile-fits : PileFits
pile-fits t p r = each-routine p _ (λ g. g.places ≤ (g.params + g.vars) + 731) (λ f g h. omega (arith, h, places_are p f g)) (all_tops p 0 0) (room-holds t p r).1
