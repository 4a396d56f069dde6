-- What code may take for granted of a text's program: that its resolved nodes make its steps, how long its rows are, and what its nodes are.
use Rattle.std.specs.Prelude.{◌≡◌, List, [], ◌∷◌, ℕ, ◌+◌, ◌*◌, ◌≤◌, length}
use Rattle.language.specs.Syntax.{Block, Prog, stage}
use Rattle.grammar.specs.Text.{Reads}
use Rattle.rows.specs.Nodes.{nodes_b}
use Rattle.rows.specs.Trees.{list_row}
use Rattle.steps.specs.Steps.{MFn}
use Rattle.steps.specs.Generate.{Scope, need_b, gen_prog}
use Rattle.steps.specs.Fits.{Each}
use Rattle.lower.specs.Lower.{others}
use Rattle.generator.specs.Resolved.{resolve_nodes}
use Rattle.generator.specs.ResolvedRows.{resolve_prog, resolved_words}
use Rattle.generator.specs.Peak.{peak}
use Rattle.generator.specs.StepRows.{fn_words, base_of, made}
use Rattle.generator.specs.Core.{CoreRoutine}

-- the places that a body's nodes take are those that the generator counts
abbrev pub PeakNeeds : Type 0
PeakNeeds = (Γ : Scope) (body : Block) (b : ℕ) → peak b (resolve_nodes Γ (nodes_b body)) [] b ≡ b + need_b Γ body

-- what the fold makes of the functions of a program are the functions in steps
abbrev pub MadeRight : Type 0
MadeRight = (p : Prog) → list_row (λ r. fn_words (made r)) (resolve_prog p).routines ≡ list_row fn_words (others (gen_prog p).funs)

-- three words a node
abbrev pub ResolvedShort : Type 0
ResolvedShort = (t : List ℕ) (p : Prog) → Reads t p → length (resolved_words (resolve_prog p)) ≤ 4 + 3 * length t

abbrev pub steps_in : List MFn → ℕ
steps_in [] = 0
steps_in (f ∷ fs) = length f.code + steps_in fs

-- the row of the steps, and besides a word for each step and each function
abbrev pub StepsShort : Type 0
StepsShort = (t : List ℕ) (p : Prog) → Reads t p → length (list_row fn_words (others (gen_prog p).funs)) + (steps_in (others (gen_prog p).funs) + length (others (gen_prog p).funs)) ≤ 10 * length t

abbrev pub PileFits : Type 0
PileFits = (t : List ℕ) (p : Prog) → Reads t p → Each (λ r. peak (base_of r) r.nodes [] (base_of r) ≤ base_of r + 1022) (resolve_prog p).routines

abbrev pub CoreNodes : Type 0
CoreNodes = (t : List ℕ) (p : Prog) → Reads t p → stage p ≡ 0 → Each (λ r. CoreRoutine r × (r.own ≡ [])) (resolve_prog p).routines
