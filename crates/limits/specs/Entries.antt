-- The places of entries that stand one after another in a row.
use Rattle.std.specs.Prelude.{◌≡◌, ℕ, ◌+◌, List, [], ◌∷◌, length, Option, MatchOption}
use Rattle.language.specs.Syntax.{Name}
use Rattle.rows.specs.Has.{Has, named}
use Rattle.rows.specs.Trees.{list_row}
use Rattle.limits.specs.declared.entries.Entries.{Entries}

-- these entries are left, in the row w
pub record Left {E T : Type 0} (row : T → List ℕ) (w : List ℕ) (s : Entries E) (ts : List T) : Type 0 where
  pub lent : s.row.now ≡ w
  pub here : Has w s.here (list_row row ts)
  pub long : length ts ≡ s.left

-- L says what is left of entries with these rows. A call gave the place of the first, and the others are left, or none was left.
abbrev pub Gives : {S T : Type 0} → (List ℕ → S → List T → Type 0) → (T → List ℕ) → S → Option ℕ → S → Type 0
Gives {S} {T} L row s r t = (w : List ℕ) (ts : List T) → L w s ts →
    MatchOption r (ts ≡ []) (λ j. (x : T) × (xs : List T) × (ts ≡ x ∷ xs) × Has w j (row x) × L w t xs)

abbrev pub Passes : {E T : Type 0} → (T → List ℕ) → Entries E → Option ℕ → Entries E → Type 0
Passes {E} {T} row = Gives (Left {E = E} row) row

-- each entry has its name so far behind its start
abbrev pub NamesAt : {T : Type 0} → (T → List ℕ) → (T → Name) → List ℕ → ℕ → Type 0
NamesAt {T} row name_of w offset = (x : T) (i : ℕ) → Has w i (row x) → Has w (i + offset) (named (name_of x))
