-- Which program a text is, as a function: what the model parser gives, if the text keeps to the limits and the checks accept it.
-- Rests on Text and ParseAll; code that reads a text is proved to answer as `reading` does, and the laws below tie `reading` to `Reads`.
use Rattle.std.specs.Prelude.{◌≡◌, Bool, ◌&&◌, List, ℕ, length, leb}
use Rattle.std.proofs.Math.Option.{Option, some, none}
use Rattle.language.specs.Syntax.{pick, Prog}
use Rattle.language.specs.Checks.{ok}
use Rattle.grammar.specs.Text.{pieces, gap, flat, calm, Reads}
use Rattle.grammar.specs.Parse.{Res, fail, got}
use Rattle.grammar.specs.ParseAll.{parse}

-- the limits of a text: its bytes, its brackets one in another, its signs in a row
abbrev pub small : List ℕ → Bool
small t = leb (length t) 32768 && (flat 0 (pieces gap t) && calm 0 (pieces gap t))

-- a parser's result, if the limits hold and the checks accept it
abbrev pub checked : Bool → Res Prog → Option Prog
checked b fail = none
checked b (got p r) = pick (b && ok p) (some p) none

unfoldable pub reading : List ℕ → Option Prog
reading t = checked (small t) (parse (pieces gap t))

-- what is read is what the text says
abbrev pub ReadingSound : Type 0
ReadingSound = (t : List ℕ) (p : Prog) → reading t ≡ some p → Reads t p

-- what a text says is read
abbrev pub ReadingComplete : Type 0
ReadingComplete = (t : List ℕ) (p : Prog) → Reads t p → reading t ≡ some p

-- where nothing is read, the text is no program
abbrev pub ReadingNone : Type 0
ReadingNone = (t : List ℕ) → reading t ≡ none → (p : Prog) → Reads t p → ⊥
