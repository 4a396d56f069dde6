-- What the code makes of a function's nodes, of a function, and of all functions.
use Rattle.std.specs.Prelude.{◌≡◌, ℕ, ◌+◌, ◌<◌, ◌≤◌, true, List, [], length, map, drop}
use Rattle.rows.specs.declared.row.Row.{Row}
use Rattle.rows.specs.Row.{Patched, Pushed}
use Rattle.rows.specs.Has.{Has}
use Rattle.rows.specs.Trees.{list_row}
use Rattle.steps.specs.Fits.{Each}
use Rattle.generator.specs.Resolved.{Resolved}
use Rattle.generator.specs.ResolvedRows.{Routine, ResolvedProg, node_words, routine_words, resolved_words}
use Rattle.generator.specs.StepRows.{step_words, fn_words, base_of, made}
use Rattle.generator.specs.Emit.{marks, run}
use Rattle.generator.specs.Peak.{peak}
use Rattle.generator.specs.Core.{core, CoreRoutine}
use Rattle.stepper.specs.Swapped.{Lent}

-- nodes of stage 0, with words enough for their pile, and numbers that words hold
pub record Fit (b : ℕ) (vs : List Resolved) (words : ℕ) : Type 0 where
  pub core : Each (λ v. core b v ≡ true) vs
  pub pile : peak b vs [] b ≤ b + words
  pub small : b + words + 2 < 4294967296

-- the nodes' steps were written; the function has d places and n steps
pub record BodyIs (b : ℕ) (vs : List Resolved) (d n : ℕ) (p q : Row) : Type 0 where
  pub places : d ≡ peak b vs [] b
  pub steps : n ≡ length (run b vs (marks [] 0 0 [])).out
  pub pushed : Pushed p q (list_row step_words (run b vs (marks [] 0 0 [])).out)

-- for all nodes whose words these are
pub record BodyDone (nodes : List (List ℕ)) (b words : ℕ) (p : Row) (d n : ℕ) (q : Row) : Type 0 where
  pub lent : Lent p q
  pub body : (vs : List Resolved) → nodes ≡ map node_words vs → Fit b vs words → length vs < 1073741823 → BodyIs b vs d n p q

-- a word put in where one was written
pub record Filled (p q : Row) (at v : ℕ) : Type 0 where
  pub lent : Lent p q
  pub patched : at < p.len → Patched p q at v

-- a function without arrays
pub record Good (g : Routine) (words : ℕ) : Type 0 where
  pub own : g.own ≡ []
  pub fit : Fit (base_of g) g.nodes words

-- its row was written, and behind its words in the row stands r
pub record RoutineIs (g : Routine) (row r : List ℕ) (p q : Row) : Type 0 where
  pub behind : r ≡ drop (length (routine_words g)) row
  pub pushed : Pushed p q (fn_words (made g))

-- what stands in the row is a resolved program of stage 0, with words enough for its piles, and numbers that words hold
pub record Suits (row : List ℕ) (r : ResolvedProg) (words : ℕ) : Type 0 where
  pub is : row ≡ resolved_words r
  pub core : Each (λ g. CoreRoutine g × (g.own ≡ [])) r.routines
  pub piles : Each (λ g. peak (base_of g) g.nodes [] (base_of g) ≤ base_of g + words) r.routines
  pub small : Each (λ g. base_of g + words + 2 < 4294967296) r.routines
  pub short : length row < 1073741824

-- the row of its steps
abbrev pub steps_row : ResolvedProg → List ℕ
steps_row r = list_row (λ g. fn_words (made g)) r.routines

-- for all functions that stand first in the row
pub record RoutineDone (row : List ℕ) (words : ℕ) (p : Row) (r : List ℕ) (q : Row) : Type 0 where
  pub lent : Lent p q
  pub routine : (g : Routine) → Has row 0 (routine_words g) → Good g words → length row < 1073741824 → RoutineIs g row r p q
