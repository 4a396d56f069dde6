-- The pile of kinds in lent words: the kinds' numbers, the top last.
use Rattle.std.specs.Prelude.{◌≡◌, ℕ, ◌≤◌, List, length, take, MatchOption}
use Rattle.std.proofs.Math.Option.{Option, some, none}
use Rattle.std.specs.declared.option.Option as std
use Rattle.names.specs.declared.pile.Pile.{Pile}
use Rattle.language.specs.Syntax.{Kind}
use Rattle.rows.specs.Trees.{map_list, kind_no}

-- the first n of the words are the pile
pub record Piled (w : List ℕ) (n : ℕ) (st : List Kind) : Type 0 where
  pub is : take n w ≡ map_list kind_no st
  pub room : n ≤ length w

-- what a node left
pub record Remains (w : List ℕ) (o : Option (List Kind)) (n : ℕ) : Type 0 where
  pub pile : List Kind
  pub is : o ≡ some pile
  pub there : Piled w n pile

-- the node is refused, or the pile is what it left
abbrev pub Leaves : Pile → Option (List Kind) → std.Option Unit → Type 0
Leaves s o r = MatchOption r (o ≡ none) (λ u. Remains s.words.now o s.len)

-- the slice that is lent is still the same, and as long
pub record StillLent (o s : Pile) : Type 0 where
  pub kept : length s.words.now ≡ length o.words.now
  pub same : s.words.ghost_name ≡ o.words.ghost_name
