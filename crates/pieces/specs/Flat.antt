-- How many brackets are open behind a piece, and how many signs before one stand in a row: a step of `flat` and of `calm`.
use Rattle.std.specs.Prelude.{ℕ, ◌+◌, ◌-◌}
use Rattle.pieces.specs.declared.piece.Piece.{Piece}
use Rattle.language.specs.Syntax.{pick}
use Rattle.grammar.specs.Text.{opens, shuts, is_before}
use Rattle.pieces.specs.Cutting.{spelled}

abbrev pub opened_after : Piece → ℕ → ℕ
opened_after p n = pick (opens (spelled p)) (n + 1) (pick (shuts (spelled p)) (n - 1) n)

abbrev pub signed_after : Piece → ℕ → ℕ
signed_after p n = pick (is_before (spelled p)) (n + 1) 0
