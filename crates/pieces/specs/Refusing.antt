-- The place where a text is refused: as many bytes are left there, from its first piece on.
use Rattle.std.specs.Prelude.{◌≡◌, ℕ, ◌-◌, ◌≤◌, List, length, drop}
use Rattle.grammar.specs.Text.{pieces, gap}
use Rattle.pieces.specs.Cutting.{Starts}

pub record Left (t : List ℕ) (left : ℕ) : Type 0 where
  pub within : left ≤ length t
  pub same : pieces gap t ≡ pieces gap (drop (length t - left) t)
  pub starts : Starts (drop (length t - left) t)
