-- What is said of the limits of nesting: that a text keeps to both, or which one it passes, and a place in the text.
use Rattle.std.specs.Prelude.{◌≡◌, ◌&&◌, ◌≤◌, true, false, ℕ, List, length, MatchOption}
use Rattle.std.specs.declared.option.Option as std
use Rattle.grammar.specs.Text.{pieces, gap, flat, calm}
use Rattle.pieces.specs.declared.refused.Reason.{Reason}
use Rattle.pieces.specs.declared.refused.Reason.TheVariants.{BracketsTooDeep, SignsTooMany}
use Rattle.places.specs.declared.located.Located.{Located}

-- a limit of nesting that a text passes
abbrev pub Passes : List ℕ → Reason → Type 0
Passes t BracketsTooDeep = flat 0 (pieces gap t) ≡ false
Passes t SignsTooMany = calm 0 (pieces gap t) ≡ false
Passes t _ = ⊥

abbrev pub PastLimit : List ℕ → std.Option (Located Reason) → Type 0
PastLimit t r = MatchOption r ((flat 0 (pieces gap t) && calm 0 (pieces gap t)) ≡ true) (λ p. Passes t p.what × (p.at ≤ length t))
