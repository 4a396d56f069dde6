-- The steps of three programs, and how their runs end.
use Rattle.std.specs.Prelude.{◌≡◌, ℕ, List, [], ◌∷◌}
use Rattle.language.specs.Syntax.{Prog}
use Rattle.language.specs.Samples.{Ending, with_word, with_trap, other, factorial, sums, tables}
use Rattle.steps.specs.Steps.{MNext, m_goes, m_ends, m_traps, m_stuck, m_after, m_begin}
use Rattle.steps.specs.Generate.{gen_prog}

abbrev pub ending : MNext → Ending
ending (m_goes m) = other
ending (m_ends x m) = with_word x m.outs
ending (m_traps c m) = with_trap c m.outs
ending m_stuck = other

abbrev pub followed : Prog → List ℕ → ℕ → Ending
followed p ins k = ending (m_after (gen_prog p) k (m_begin (gen_prog p) ins))

pub record Worked : Type 0 where
  pub factorial_ends : followed factorial [] 92 ≡ with_word 7 (120 ∷ [])
  pub sums_ends : followed sums (4 ∷ 5 ∷ 6 ∷ 7 ∷ []) 200 ≡ with_trap 1 (15 ∷ [])
  pub sums_short : followed sums (4 ∷ []) 100 ≡ with_trap 3 []
  pub tables_ends : followed tables [] 100 ≡ with_trap 2 (10 ∷ 14 ∷ [])
