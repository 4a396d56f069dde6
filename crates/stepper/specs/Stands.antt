-- What the code holds while it writes a function's steps, and for which marks of the fold this stands.
use Rattle.std.specs.Prelude.{◌≡◌, ℕ, ◌+◌, ◌-◌, ◌*◌, ◌<◌, ◌≤◌, min, true, List, [], ◌∷◌, length, slice_index, slice_set, Option, Some, None}
use Rattle.rows.specs.declared.row.Row.{Row}
use Rattle.rows.specs.Row.{Wrote, Pushed}
use Rattle.rows.specs.Trees.{list_row}
use Rattle.steps.specs.Steps.{Step}
use Rattle.generator.specs.Resolved.{Resolved}
use Rattle.generator.specs.Emit.{Entry, e_temp, e_own, e_arr, above, place_of, under, top, Marks, settle, forgets, makes, lands, emit}
use Rattle.generator.specs.StepRows.{step_words}
use Rattle.generator.specs.Core.{core}
use Rattle.stepper.specs.declared.writer.Writer.{Writer}
use Rattle.stepper.specs.Swapped.{Lent, Swapped}

-- a word of the pile: an own word's place, which is below b, or for any other value one that is not
abbrev pub Waits : ℕ → ℕ → Entry → Type 0
Waits b w e_temp = b ≤ w
Waits b w (e_own k) = (w ≡ k) × (k < b)
Waits b w (e_arr o) = ⊥

-- the pile's words, the bottom first, as far as words were lent for it
abbrev pub Placed : ℕ → List ℕ → List Entry → Type 0
Placed b ws [] = Unit {0}
Placed b ws (e ∷ es) = (length es < length ws → Waits b (slice_index ws (length es)) e) × Placed b ws es

-- the own word that a value is
abbrev pub own_of : Entry → Option ℕ
own_of e_temp = None
own_of (e_own k) = Some k
own_of (e_arr o) = None

-- behind what is written in o there is room for these steps
abbrev pub Room : Row → List Step → Type 0
Room o ss = o.len + 5 * length ss ≤ length o.words.now

-- what is so if there is room: what is read back from the steps is known then only
pub record Holds (z : Marks) (w : Writer) (o : Row) : Type 0 where
  pub waiting : w.waiting ≡ z.waiting
  pub head : w.head ≡ z.head
  pub wrote : Wrote o w.out.now (list_row step_words z.out)

-- the steps of z stand behind what o had, and its pile in the pile's words; places begin at b
pub record Stands (b : ℕ) (z : Marks) (w : Writer) (o : Row) : Type 0 where
  pub first : w.first ≡ o.len
  pub base : w.base ≡ b
  pub height : w.height ≡ length z.pile
  pub placed : Placed b w.pile.now z.pile
  pub next : w.next ≡ length z.out
  pub holds : Room o z.out → Holds z w o

-- the same is lent, as much
pub record Kept (w x : Writer) : Type 0 where
  pub lent : Lent w.out.now x.out.now
  pub out : x.out.ghost_name ≡ w.out.ghost_name
  pub pile : x.pile.ghost_name ≡ w.pile.ghost_name
  pub long : length x.pile.now ≡ length w.pile.now

-- and the writing stands as far as before, but for the steps and the pile
pub record Same (w x : Writer) : Type 0 where
  pub kept : Kept w x
  pub first : x.first ≡ w.first
  pub base : x.base ≡ w.base
  pub waiting : x.waiting ≡ w.waiting
  pub head : x.head ≡ w.head

-- a step more
pub record Stepped (w x : Writer) (s : Step) : Type 0 where
  pub same : Same w x
  pub height : x.height ≡ w.height
  pub next : x.next ≡ min (w.next + 1) 4294967295
  pub pile : x.pile.now ≡ w.pile.now
  pub pushed : Pushed w.out.now x.out.now (step_words s)

-- another target for step i; it was t
pub record Aimed (w x : Writer) (i u t : ℕ) : Type 0 where
  pub same : Same w x
  pub height : x.height ≡ w.height
  pub next : x.next ≡ w.next
  pub pile : x.pile.now ≡ w.pile.now
  pub swapped : Swapped w.out.now x.out.now w.first i u t

-- a word more on the pile, if there is one for it
pub record Put (w x : Writer) (k : ℕ) : Type 0 where
  pub same : Same w x
  pub height : x.height ≡ min (w.height + 1) 4294967295
  pub next : x.next ≡ w.next
  pub pile : x.pile.now ≡ slice_set w.pile.now w.height k
  pub out : x.out.now ≡ w.out.now

-- n values less
pub record Lowered (w x : Writer) (n : ℕ) : Type 0 where
  pub same : Same w x
  pub height : x.height ≡ w.height - n
  pub next : x.next ≡ w.next
  pub pile : x.pile.now ≡ w.pile.now
  pub out : x.out.now ≡ w.out.now

-- the own word that the value on top is
pub record Topped (w : Writer) (r : Option ℕ) : Type 0 where
  pub own : (es : List Entry) → Placed w.base w.pile.now es → w.height ≡ length es → length es ≤ length w.pile.now → r ≡ own_of (top es)

-- and that value taken off
pub record Popped (w x : Writer) (r : Option ℕ) : Type 0 where
  pub topped : Topped w r
  pub lowered : Lowered w x 1

-- numbers are far from what a word holds, and the words lent for the pile are enough so far
pub record Small (b : ℕ) (z : Marks) (ws : List ℕ) : Type 0 where
  pub deep : length z.pile ≤ length ws
  pub places : b + length z.pile + 2 < 4294967296
  pub steps : length z.out + 4 < 4294967296

-- the value on top taken off, and the place where it is
pub record Took (w x : Writer) (r : ℕ) : Type 0 where
  pub kept : Kept w x
  pub goes : (b : ℕ) (z : Marks) (o : Row) → Small b z w.pile.now → Stands b z w o → Stands b (forgets z) x o
  pub value : (b : ℕ) (z : Marks) (o : Row) → Small b z w.pile.now → Stands b z w o → r ≡ place_of (above b (under z.pile)) (top z.pile)

-- step s, by which t is meant, and its value on the pile
pub record Made (s : Step) (w x : Writer) : Type 0 where
  pub kept : Kept w x
  pub goes : (b : ℕ) (z : Marks) (o : Row) (t : Step) → b + length z.pile + 1 < 4294967296 → length z.out + 1 < 4294967296 → (Holds z w o → step_words s ≡ step_words t) → Stands b z w o → Stands b (makes z z.pile t) x o

-- the marks went on by f
pub record Goes (f : ℕ → Marks → Marks) (w x : Writer) : Type 0 where
  pub kept : Kept w x
  pub goes : (b : ℕ) (z : Marks) (o : Row) → Small b z w.pile.now → Stands b z w o → Stands b (f b z) x o

-- the same by a node
pub record Turned (v : Resolved) (w x : Writer) : Type 0 where
  pub kept : Kept w x
  pub goes : (b : ℕ) (z : Marks) (o : Row) → core b v ≡ true → Small b z w.pile.now → Stands b z w o → Stands b (emit b v z) x o

-- the last jump that waits comes to the next step
pub record Landed (w x : Writer) : Type 0 where
  pub kept : Kept w x
  pub goes : (b : ℕ) (z : Marks) (o : Row) → Stands b z w o → Stands b (lands z) x o

-- the value on top taken off the pile, in its temporary place
abbrev pub taken : ℕ → Marks → Marks
taken b z = forgets (settle b z)

-- the first free place then, which is r
pub record Settled (w x : Writer) (r : ℕ) : Type 0 where
  pub goes : Goes taken w x
  pub place : r ≡ min (x.base + x.height) 4294967295
