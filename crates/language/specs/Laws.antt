-- The laws of the meaning, at every stage and depth; those with T (ok p) are of programs that the checks accept.
-- Rests on Meaning, Checks and Observe; each law stands on a function's contract.
use Rattle.std.specs.Prelude.{◌≡◌, List, [], ◌∷◌, ℕ, ◌≤◌, ◌<◌, T}
use Rattle.std.proofs.Math.Option.{some}
use Rattle.language.specs.Syntax.{pick, Name, Prog}
use Rattle.language.specs.Words.{all}
use Rattle.language.specs.Meaning.{Value, word, array, State, Result, val, wrong, Task, run, means}
use Rattle.language.specs.Checks.{ok}
use Rattle.language.specs.Observe.{Front, state_of, outs_of, IsSpent}

-- something holds of each element of a list
abbrev pub Each : {A : Type 0} → (A → Type 0) → List A → Type 0
Each P [] = Unit {0}
Each P (x ∷ xs) = P x × Each P xs

-- no program comes to where nothing is meant
abbrev pub NeverWrong : Type 0
NeverWrong = (p : Prog) (ins : List ℕ) (n : ℕ) → T (ok p) → means p ins n ≡ wrong → ⊥

-- following the meaning further changes nothing that was found, and what was put out stays
abbrev pub Further : Type 0
Further =
    (p : Prog) (ins : List ℕ) (m n : ℕ) → T (ok p) → m ≤ n →
    (IsSpent (means p ins m) → Front (outs_of (means p ins m)) (outs_of (means p ins n))) ×
    ((IsSpent (means p ins m) → ⊥) → means p ins n ≡ means p ins m)

-- whatever is done in a state, what was put out by then and the calls made by then stay, and more only follows them
pub record Grown (s t : State) : Type 0 where
  pub outs : Front s.outs t.outs
  pub calls : Front s.calls t.calls

abbrev pub OnlyGrows : Type 0
OnlyGrows =
    (p : Prog) (n : ℕ) (f : Name) (k : Task) (s t : State) →
    state_of (run p n f k s) ≡ some t → Grown s t

-- a value that is a word is below 2^32
abbrev pub ValueWord : Value → Type 0
ValueWord (word n) = n < all
ValueWord (array a) = Unit {0}

-- every word that a state holds is below 2^32, and every byte below 256: at the top, in arrays, in variables, still to read, put out
pub record WordsSmall (s : State) : Type 0 where
  pub words : Each (λ n. n < all) s.words
  pub cells : Each (λ a. Each (λ n. n < pick a.wide all 256) a.cells) s.arrays
  pub vars : Each (λ b. ValueWord b.val) s.vars
  pub ins : Each (λ n. n < all) s.ins
  pub outs : Each (λ n. n < all) s.outs

-- of a run, whether it ended, trapped or was spent: its state holds such words, and what main gives is such a word
pub record SmallRun (r : Result) : Type 0 where
  pub holds : (s : State) → state_of r ≡ some s → WordsSmall s
  pub given : (v : Value) (s : State) → r ≡ val v s → (x : ℕ) × (v ≡ word x) × (x < all)

-- if the words to read are below 2^32, all words are
abbrev pub WordsStay : Type 0
WordsStay =
    (p : Prog) (ins : List ℕ) (n : ℕ) → T (ok p) →
    Each (λ x. x < all) ins → SmallRun (means p ins n)
