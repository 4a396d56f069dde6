-- A reason is given exactly if there are enough work words and the text is no program; its place is in the text or at its end. A reason
-- of the grammar is given exactly if the text is not written as files are, within the limits of texts.
use Rattle.std.specs.Prelude.{◌≡◌, ℕ, ◌≤◌, T, List, length, MatchOption, ◌≢◌}
use Rattle.std.proofs.Math.Option.{none}
use Rattle.std.specs.declared.option.Option as std
use Rattle.language.specs.Syntax.{Prog}
use Rattle.grammar.specs.Text.{pieces, gap, AreFiles}
use Rattle.grammar.specs.Reading.{small, reading}
use Rattle.parser.specs.Programs.{Unread}
use Rattle.front.specs.Answers.{work_words}
use Rattle.places.specs.declared.located.Located.{Located}
use Rattle.messages.specs.declared.problem.What.{What}
use Rattle.messages.specs.declared.problem.What.TheVariants.{Reads, Fails}

-- a text that is written as files are
pub record Written (t : List ℕ) : Type 0 where
  pub program : Prog
  pub said : AreFiles (pieces gap t) program
  pub fits : T (small t)

abbrev pub Of : List ℕ → What → Type 0
Of t (Reads r) = Unread t
Of t (Fails f) = Written t

pub record IsProblem (t : List ℕ) (p : Located What) : Type 0 where
  pub no_program : reading t ≡ none
  pub within : p.at ≤ length t
  pub of : Of t p.what

abbrev pub Explains : List ℕ → ℕ → std.Option (Located What) → Type 0
Explains t w r = MatchOption r (work_words t ≤ w → reading t ≢ none) (IsProblem t)
