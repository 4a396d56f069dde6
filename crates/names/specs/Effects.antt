-- What a node of a body asks of the pile of kinds and gives to it, by its tag.
use Rattle.std.specs.Prelude.{◌≡◌, ℕ, ◌+◌, ◌-◌, min, Bool, true, false, not, ◌||◌, List, ◌++◌, length, replicate, ◌==◌, MatchOption, Some, None, is_some}
use Rattle.std.proofs.Math.Option.{Option, some, none}
use Rattle.std.specs.declared.option.Option as std
use Rattle.rows.specs.declared.kind.LocalKind.{LocalKind}
use Rattle.rows.specs.declared.kind.LocalKind.TheVariants.{Word, Bytes, Words}
use Rattle.limits.specs.Entries.{Left}
use Rattle.names.specs.declared.asking.Effect.{Effect}
use Rattle.language.specs.Syntax.{pick, Kind, k_word, Param}
use Rattle.language.specs.Meaning.{on_some}
use Rattle.rows.specs.Nodes.{Node}
use Rattle.rows.specs.Trees.{Local, map_list, local_row}
use Rattle.names.specs.Fold.{Ctx, kinds, eat, push, step}
use Rattle.names.specs.Kinds.{kind_found}

-- how many words are asked for
abbrev pub takes : ℕ → ℕ
takes n = pick (n == 2 || n == 13) 2 (pick ((((((((((n == 3 || n == 4) || n == 5) || n == 6) || n == 7) || n == 12) || n == 14) || n == 15) || n == 16) || n == 20) || n == 22) 1 0)

-- what is given: the kind of the node's name, a word, or nothing
abbrev pub gives : ℕ → std.Option LocalKind → std.Option LocalKind
gives n k = pick (n == 1 || n == 26) k (pick ((((((n == 0 || n == 2) || n == 5) || n == 6) || n == 7) || n == 8) || n == 11) (Some Word) None)

-- whether a node is of those whose name has a kind, and whether that kind is as it must be
abbrev pub wants_kind : ℕ → Bool
wants_kind n = ((((n == 1 || n == 7) || n == 8) || n == 12) || n == 13) || n == 26

abbrev pub is_word : std.Option LocalKind → Bool
is_word None = false
is_word (Some Word) = true
is_word (Some Bytes) = false
is_word (Some Words) = false

abbrev pub is_array : std.Option LocalKind → Bool
is_array None = false
is_array (Some Word) = false
is_array (Some Bytes) = true
is_array (Some Words) = true

abbrev pub suits : ℕ → std.Option LocalKind → Bool
suits n k = pick (n == 1 || n == 26) (is_some k) (pick (n == 12) (is_word k) (is_array k))

-- whether a node without a name may stand here, in d loops: a number is below 2 ^ 32, its second digit h being 0
abbrev pub stands : ℕ → ℕ → ℕ → Bool
stands n h d = pick (n == 0) (h == 0) (pick (n == 23 || n == 24) (not (d == 0)) true)

-- in how many loops the next node stands
abbrev pub deeper : ℕ → ℕ → ℕ
deeper n d = pick (n == 19) (min (d + 1) 18446744073709551615) (pick (n == 21) (d - 1) d)

abbrev pub give : Option Kind → Option (List Kind) → Option (List Kind)
give none o = o
give (some k) o = push k o

abbrev pub local_kinds : List Local → List Kind
local_kinds ls = map_list (λ (l : Local). l.kind) ls

-- the node t, in d loops, does what e says
pub record Does (row : List ℕ) (Γ : Ctx) (d : ℕ) (t : Node) (e : Effect) : Type 0 where
  pub asked : List Local
  pub there : Left local_row row e.params asked
  pub given : Option Kind
  pub gives : e.gives ≡ kind_found given
  pub is : (st : List Kind) → step Γ d t st ≡ give given (eat (e.words + length asked) (replicate e.words k_word ++ local_kinds asked) st)

-- the node is refused, or does what was found
abbrev pub MayDo : List ℕ → Ctx → ℕ → Node → std.Option Effect → Type 0
MayDo row Γ d t r = MatchOption r ((st : List Kind) → step Γ d t st ≡ none) (λ e. Does row Γ d t e)

-- what a call with n arguments, of a function with the parameters o, behind so many words makes of the pile
abbrev pub called_with : Option (List Param) → ℕ → ℕ → List Kind → Option (List Kind)
called_with o n words st = on_some o (λ qs. push k_word (eat (words + n) (replicate words k_word ++ kinds qs) st))

-- the call does what e says
pub record Asks (row : List ℕ) (o : Option (List Param)) (n words : ℕ) (e : Effect) : Type 0 where
  pub asked : List Local
  pub there : Left local_row row e.params asked
  pub gives : e.gives ≡ Some Word
  pub is : (st : List Kind) → called_with o n words st ≡ push k_word (eat (e.words + length asked) (replicate e.words k_word ++ local_kinds asked) st)

-- the call is refused, or does what was found
abbrev pub MayAsk : List ℕ → Option (List Param) → ℕ → ℕ → std.Option Effect → Type 0
MayAsk row o n words r = MatchOption r ((st : List Kind) → called_with o n words st ≡ none) (λ e. Asks row o n words e)
