-- Another target in a jump that was written.
use Rattle.std.specs.Prelude.{◌≡◌, ℕ, List, length}
use Rattle.rows.specs.declared.row.Row.{Row}
use Rattle.rows.specs.Row.{Wrote}
use Rattle.rows.specs.Trees.{list_row}
use Rattle.steps.specs.Steps.{Step}
use Rattle.generator.specs.Emit.{target_at, aim_at}
use Rattle.generator.specs.StepRows.{step_words}

-- a row still lends the same words, as many
pub record Lent (p q : Row) : Type 0 where
  pub kept : length q.words.now ≡ length p.words.now
  pub same : q.words.ghost_name ≡ p.words.ghost_name

-- p has become q, by target u for step i of those that begin at word first; it was t
pub record Swapped (p q : Row) (first i u t : ℕ) : Type 0 where
  pub lent : Lent p q
  pub was : (o : Row) (ss : List Step) → first ≡ o.len → Wrote o p (list_row step_words ss) → t ≡ target_at ss i
  pub is : (o : Row) (ss : List Step) → first ≡ o.len → Wrote o p (list_row step_words ss) → Wrote o q (list_row step_words (aim_at ss i u))
