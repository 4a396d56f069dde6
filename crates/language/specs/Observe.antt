-- What can be seen of a run: its state, what was put out, and whether it was spent. Rests on Meaning; every promise about runs is in these words.
use Rattle.std.specs.Prelude.{List, [], ◌∷◌, ℕ}
use Rattle.std.proofs.Math.Option.{Option, some, none}
use Rattle.language.specs.Meaning.{State, Result, val, vals, fine, broke, goes_on, gives, trap, spent, wrong}

-- one list is the beginning of another
pub data Front {A : Type 0} : List A → List A → Type 0 where
  none_yet : {s : List A} → Front [] s
  and_so : {x : A} {s t : List A} → Front s t → Front (x ∷ s) (x ∷ t)

-- the state that a result is in; only where nothing is meant there is none
abbrev pub state_of : Result → Option State
state_of (val v s) = some s
state_of (vals vs s) = some s
state_of (fine s) = some s
state_of (broke s) = some s
state_of (goes_on s) = some s
state_of (gives v s) = some s
state_of (trap c s) = some s
state_of (spent s) = some s
state_of wrong = none

-- what was put out by then
abbrev pub outs_of : Result → List ℕ
outs_of r = of (state_of r)
  where
    of : Option State → List ℕ
    of none = []
    of (some s) = s.outs

-- the run was not followed to its end
pub data IsSpent : Result → Type 0 where
  is_spent : {s : State} → IsSpent (spent s)
