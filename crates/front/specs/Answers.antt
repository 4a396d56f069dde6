-- What `check` and `read` answer for a text: with too few work words nothing is looked at; else the text is no program, or the row of the
-- one program that it is stands in the work words, and its stage is known; after `read` also the row of its resolved names.
use Rattle.std.specs.Prelude.{◌≡◌, ℕ, ◌+◌, ◌*◌, ◌<◌, ◌≤◌, T, List, [], length, take, Result, Ok, Err}
use Rattle.std.proofs.Math.Option.{some, none}
use Rattle.language.specs.Syntax.{Prog, stage}
use Rattle.grammar.specs.Text.{pieces, gap, AreFiles}
use Rattle.grammar.specs.Parse.{got}
use Rattle.grammar.specs.ParseAll.{parse}
use Rattle.grammar.specs.Reading.{small, reading}
use Rattle.rows.specs.Trees.{prog_row}
use Rattle.generator.specs.ResolvedRows.{resolved_words, resolve_prog}
use Rattle.front.specs.declared.parsed.Parsed.{Parsed}
use Rattle.front.specs.declared.Accepted.{Accepted}
use Rattle.front.specs.declared.Tree.{Tree}
use Rattle.front.specs.declared.Unreadable.{Unreadable}
use Rattle.front.specs.declared.Unreadable.TheVariants.{Few, NoProgram}

-- how many work words a text asks for
abbrev pub work_words : List ℕ → ℕ
work_words t = 65536 + 16 * length t

-- the first n words
abbrev pub Begins : List ℕ → ℕ → List ℕ → Type 0
Begins w n ws = take n w ≡ ws

-- the one program that reads as the text, its row and its stage
pub record IsAccepted (t : List ℕ) (a : Accepted) : Type 0 where
  pub program : Prog
  pub read_as : reading t ≡ some program
  pub row_is : a.row.now ≡ prog_row program
  pub stage_is : a.stage ≡ stage program
  pub short : length a.row.now ≤ 4 * length t + 1

-- the one program that reads as the text, its row and its stage, and the program with its names resolved
pub record IsProgram (t : List ℕ) (tree : Tree) : Type 0 where
  pub program : Prog
  pub read_as : reading t ≡ some program
  pub row_is : tree.row.now ≡ prog_row program
  pub stage_is : tree.stage ≡ stage program
  pub resolved_is : tree.resolved.now ≡ resolved_words (resolve_prog program)

-- a text as the model parser reads it, the row of its tree, and the words that are left of w
pub record IsParsed (t : List ℕ) (w : ℕ) (a : Parsed) : Type 0 where
  pub program : Prog
  pub said : AreFiles (pieces gap t) program
  pub parsed : parse (pieces gap t) ≡ got program []
  pub fits : T (small t)
  pub row_is : a.row.now ≡ prog_row program
  pub short : length a.row.now ≤ 4 * length t + 1
  pub left : length a.pile.now + (4 * length t + 1) ≡ w

abbrev pub CheckSays : List ℕ → ℕ → Result Accepted Unreadable → Type 0
CheckSays t w (Ok a) = (work_words t ≤ w) × IsAccepted t a × (length a.rest.now + (4 * length t + 1) ≡ w)
CheckSays t w (Err Few) = w < work_words t
CheckSays t w (Err NoProgram) = (work_words t ≤ w) × (reading t ≡ none)

abbrev pub ReadSays : List ℕ → ℕ → Result Tree Unreadable → Type 0
ReadSays t w (Ok tree) = (work_words t ≤ w) × IsProgram t tree × (length tree.rest.now + (7 * length t + 5) ≡ w)
ReadSays t w (Err Few) = w < work_words t
ReadSays t w (Err NoProgram) = (work_words t ≤ w) × (reading t ≡ none)
