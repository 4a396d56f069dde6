-- What is asked of the words that are lent, and what stands in the image then.
use Rattle.std.specs.Prelude.{◌≡◌, ℕ, ◌<◌, ◌≤◌, List, ◌∷◌, ◌++◌, length, drop, MatchOption}
use Rattle.std.specs.declared.option.Option as std
use Rattle.rows.specs.Trees.{list_row}
use Rattle.rows.specs.Has.{Has}
use Rattle.steps.specs.Steps.{MProg}
use Rattle.generator.specs.StepRows.{fn_words}
use Rattle.lower.specs.Lower.{others}
use Rattle.lower.specs.Core.{Core}
use Rattle.assembler.specs.declared.program.Program.{Program}
use Rattle.assembler.specs.declared.program.Tables as tables
use Rattle.assembler.specs.Tables.{begins, all_starts}

-- the program is m: its row, how many functions have code, and its words at the top
pub record Given (m : MProg) (p : Program) : Type 0 where
  pub core : Core m p.main
  pub steps : p.steps.now ≡ list_row fn_words (others m.funs)
  pub count : p.count ≡ length (others m.funs)
  pub words : p.words ≡ m.words

-- the tables hold where its functions and steps begin
pub record Ready (m : MProg) (t : tables.Tables) : Type 0 where
  pub entries : Has t.entries.now 0 (0 ∷ begins m (others m.funs) 6)
  pub places : Has t.places.now 0 (all_starts m (others m.funs) 6)

-- the row stands first, and so many words are told; or there was no room for it, and nothing has changed
abbrev pub Assembled : List ℕ → List ℕ → List ℕ → std.Option ℕ → Type 0
Assembled row o o' r = MatchOption r ((length o < length row) × (o' ≡ o)) (λ n. (n ≡ length row) × (length row ≤ length o) × (o' ≡ row ++ drop n o))
