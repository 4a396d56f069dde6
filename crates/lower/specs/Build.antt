-- What `build` answers and writes, as a function of the text and of what is lent: code has only to equal it.
use Rattle.std.specs.Prelude.{List, ◌++◌, ℕ, ◌+◌, ◌*◌, length, drop, ltb, leb, Result, Ok, Err}
use Rattle.std.proofs.Math.Option.{Option, some, none}
use Rattle.language.specs.Syntax.{pick, Prog, stage}
use Rattle.grammar.specs.Reading.{reading}
use Rattle.image.specs.Image.{row}
use Rattle.lower.specs.declared.Unbuilt.{Unbuilt}
use Rattle.lower.specs.declared.Unbuilt.TheVariants.{ImageFull, NotYet, NoProgram, Few}
use Rattle.lower.specs.Lower.{compile}
use Rattle.lower.specs.Promise.{landed, BuiltPost}

-- the answer, and what the words lent for the image hold then
pub record Outcome : Type 0 where
  pub answer : Result ℕ Unbuilt
  pub image : List ℕ

abbrev pub refused : Unbuilt → List ℕ → Outcome
refused e o = record { answer = Err e; image = o }

-- an image's row stands first, if there is room
abbrev pub written : List ℕ → List ℕ → Outcome
written r o = pick (ltb (length o) (length r)) (refused ImageFull o) (record { answer = Ok (length r); image = r ++ drop (length r) o })

abbrev pub of_program : List ℕ → Prog → Outcome
of_program o p = pick (leb (stage p) landed) (written (row (compile p)) o) (refused (NotYet (stage p)) o)

abbrev pub of_text : List ℕ → Option Prog → Outcome
of_text o none = refused NoProgram o
of_text o (some p) = of_program o p

-- text t, w work words, the words o lent for the image
abbrev pub built : List ℕ → ℕ → List ℕ → Outcome
built t w o = pick (ltb w (65536 + 16 * length t)) (refused Few o) (of_text o (reading t))

-- a build that gives this keeps the whole promise
abbrev pub BuildsRight : Type 0
BuildsRight = (t : List ℕ) (w : ℕ) (o : List ℕ) → BuiltPost t w o (built t w o).image (built t w o).answer
