-- What stands in a row of words, from a place on.
use Rattle.std.specs.Prelude.{◌≡◌, ℕ, ◌+◌, ◌≤◌, List, ◌∷◌, ◌++◌, length, drop}
use Rattle.language.specs.Syntax.{Name}

-- the words ws stand in w, from place i on, and rest behind them
pub record Has (w : List ℕ) (i : ℕ) (ws : List ℕ) : Type 0 where
  pub rest : List ℕ
  pub is : drop i w ≡ ws ++ rest
  pub inside : i + length ws ≤ length w

-- a name is its length and its bytes
abbrev pub named : Name → List ℕ
named x = length x ∷ x
