-- What is left of a text, and the pieces of a text one after another.
use Rattle.std.specs.Prelude.{◌≡◌, ◌≢◌, ℕ, ◌≤◌, List, length, drop, MatchOption}
use Rattle.std.specs.declared.option.Option as std
use Rattle.pieces.specs.Cutting.{Cut}
use Rattle.pieces.specs.declared.piece.Piece.{Piece}
use Rattle.pieces.specs.declared.piece.Piece.TheVariants.{End}
use Rattle.places.specs.declared.cuts.Cutting.{Cutting}
use Rattle.places.specs.declared.cuts.Cuts.{Cuts}

-- r is what is left of t behind some of its bytes
pub record Tail (t r : List ℕ) : Type 0 where
  pub at : ℕ
  pub within : at ≤ length t
  pub is : r ≡ drop at t

-- the next piece, with the text from it on and what is left behind it; or there is none
abbrev pub Next : Cuts → std.Option Cutting → Cuts → Type 0
Next s r s' = MatchOption r (Cut s.text.now End s'.text.now) (λ c. (c.from.now ≡ s.text.now) × (c.piece ≢ End) × Cut s.text.now c.piece c.behind.now × (s'.text.now ≡ c.behind.now))

-- the first piece of t is one of those that are P
pub record First (P : Piece → Type 0) (t : List ℕ) : Type 0 where
  pub piece : Piece
  pub rest : List ℕ
  pub cut : Cut t piece rest
  pub holds : P piece
