-- What the layer below may take for granted of a program in steps, and of its states.
use Rattle.std.specs.Prelude.{◌≡◌, ℕ, ◌+◌, ◌<◌, ◌≤◌, true, List, [], ◌∷◌, length}
use Rattle.std.proofs.Math.Option.{some}
use Rattle.language.specs.Syntax.{nth, Prog}
use Rattle.language.specs.Words.{all}
use Rattle.language.specs.Meaning.{Cells}
use Rattle.language.specs.Checks.{ok}
use Rattle.steps.specs.Steps.{Opnd, o_top, o_own, Step, s_num, s_copy, s_bin, s_un, s_flag, s_getw, s_setw, s_jump, s_jz, s_call, s_table, s_out, s_ret, s_in, s_idx, s_put, s_len, Shape, MFn, MProg, Places, MSt, m_goes, m_after, m_begin}
use Rattle.steps.specs.Generate.{gen_prog}
use Rattle.grammar.specs.Text.{Reads}

abbrev pub Each : {A : Type 0} → (A → Type 0) → List A → Type 0
Each P [] = Unit {0}
Each P (x ∷ xs) = P x × Each P xs

-- a number within 32 bits
abbrev pub Small : ℕ → Type 0
Small n = n < all

abbrev pub OpndFits : MProg → MFn → Opnd → Type 0
OpndFits P g (o_top a) = a < length P.arrays
OpndFits P g (o_own j) = j < g.arrays + length g.own

-- function h takes n words and m arrays, and is not the one where a run begins
abbrev pub Takes : MProg → ℕ → ℕ → ℕ → Type 0
Takes P h n m = (H : MFn) × (nth P.funs h ≡ some H) × (n ≡ H.params) × (m ≡ H.arrays) × (1 ≤ h)

abbrev pub StepFits : MProg → MFn → Step → Type 0
StepFits P g (s_num d n) = (d < g.places) × Small n
StepFits P g (s_copy d a) = (d < g.places) × (a < g.places)
StepFits P g (s_bin o d a b) = (d < g.places) × (a < g.places) × (b < g.places)
StepFits P g (s_un o d a) = (d < g.places) × (a < g.places)
StepFits P g (s_flag d a) = (d < g.places) × (a < g.places)
StepFits P g (s_getw d i) = (d < g.places) × (i < P.words)
StepFits P g (s_setw i a) = (i < P.words) × (a < g.places)
StepFits P g (s_jump t) = t < length g.code
StepFits P g (s_jz a t) = (a < g.places) × (t < length g.code)
StepFits P g (s_call d h k n os) = (d < g.places) × (k + n ≤ g.places) × Each (OpndFits P g) os × Takes P h n (length os)
StepFits P g (s_table d i t k n os) = (d < g.places) × (i < g.places) × (k + n ≤ g.places) × Each (OpndFits P g) os × ((hs : List ℕ) × (nth P.tables t ≡ some hs) × ((l h : ℕ) → nth hs l ≡ some h → Takes P h n (length os)))
StepFits P g (s_out a) = a < g.places
StepFits P g (s_ret a) = a < g.places
StepFits P g (s_in d) = d < g.places
StepFits P g (s_idx d o a) = (d < g.places) × OpndFits P g o × (a < g.places)
StepFits P g (s_put w o a b) = OpndFits P g o × (a < g.places) × (b < g.places)
StepFits P g (s_len d o) = (d < g.places) × OpndFits P g o

-- what own arrays ask for
abbrev pub asks : List Shape → ℕ
asks [] = 0
asks (z ∷ zs) = (2 + z.size) + asks zs

pub record FnFits (P : MProg) (g : MFn) : Type 0 where
  pub steps : Each (StepFits P g) g.code
  pub some_places : g.params + g.vars ≤ g.places
  pub sizes : Each (λ z. Small z.size) g.own

-- a call asks for as much as the meaning says
abbrev pub Costs : MFn → Type 0
Costs g = g.cost ≡ 1024 + ((g.params + g.arrays) + (g.vars + asks g.own))

abbrev pub but_first : {A : Type 0} → List A → List A
but_first [] = []
but_first (x ∷ xs) = xs

abbrev pub CellsFit : Cells → Type 0
CellsFit c = Each Small c.cells × Small (length c.cells)

pub record ProgFits (P : MProg) : Type 0 where
  pub funs : Each (FnFits P) P.funs
  pub cells : Each CellsFit P.arrays
  -- function 0, where a run begins, is no call
  pub costs : Each Costs (but_first P.funs)

abbrev pub MidFits : Type 0
MidFits = (p : Prog) → ok p ≡ true → ProgFits (gen_prog p)

-- of a text's program: a function has at most 731 places beside its own words
abbrev pub MidRoom : Type 0
MidRoom = (t : List ℕ) (p : Prog) → Reads t p → Each (λ g. g.places ≤ (g.params + g.vars) + 731) (gen_prog p).funs

-- all that a state holds are words
abbrev pub PlacesSmall : Places → Type 0
PlacesSmall ps = (i x : ℕ) → ps i ≡ some x → Small x

pub record StFits (m : MSt) : Type 0 where
  pub places : PlacesSmall m.places
  pub stack : Each (λ f. PlacesSmall f.places) m.stack
  pub words : Each Small m.words
  pub cells : Each CellsFit m.arrays
  pub ins : Each Small m.ins

abbrev pub MidSmall : Type 0
MidSmall = (p : Prog) → ok p ≡ true → (ins : List ℕ) → Each Small ins → (k : ℕ) (z : MSt) → m_after (gen_prog p) k (m_begin (gen_prog p) ins) ≡ m_goes z → StFits z
