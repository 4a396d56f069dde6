-- The laws of texts: a text is at most one program, and what the laws of the meaning say of a text's program.
-- Rests on Text and on the language's Meaning and Observe; the promise of a build rests on these three.
use Rattle.std.specs.Prelude.{◌≡◌, List, ℕ, ◌≤◌}
use Rattle.language.specs.Syntax.{Prog}
use Rattle.language.specs.Meaning.{wrong, means}
use Rattle.language.specs.Observe.{Front, outs_of, IsSpent}
use Rattle.grammar.specs.Text.{Reads}

-- a text is at most one program
abbrev pub OneProgram : Type 0
OneProgram = (t : List ℕ) (p q : Prog) → Reads t p → Reads t q → p ≡ q

-- no text's program comes to where nothing is meant
abbrev pub NeverWrong : Type 0
NeverWrong = (t : List ℕ) (p : Prog) (ins : List ℕ) (n : ℕ) → Reads t p → means p ins n ≡ wrong → ⊥

-- following the meaning further changes nothing that was found, and what was put out stays
abbrev pub Further : Type 0
Further =
    (t : List ℕ) (p : Prog) (ins : List ℕ) (m n : ℕ) → Reads t p → m ≤ n →
    (IsSpent (means p ins m) → Front (outs_of (means p ins m)) (outs_of (means p ins n)))
    × ((IsSpent (means p ins m) → ⊥) → means p ins n ≡ means p ins m)
