-- The page of promises: what an image does on the board, and what the call `build` answers and writes.
-- Rests on the language (Syntax, Words, Meaning, Checks, Observe), on texts (Text), on the processor (Machine) and on images (Image).
use Rattle.std.specs.Prelude.{◌≡◌, ◌⊎◌, ◌↔◌, List, ◌∷◌, ℕ, ◌+◌, ◌-◌, ◌*◌, ◌<◌, ◌≤◌, length, take, drop, Result, Ok, Err}
use Rattle.std.proofs.Math.Option.{some}
use Rattle.language.specs.Syntax.{Prog, stage}
use Rattle.language.specs.Checks.{totals}
use Rattle.language.specs.Meaning.{all_words, Mark, word, State, val, trap, means}
use Rattle.language.specs.Observe.{Front, state_of, outs_of, IsSpent}
use Rattle.grammar.specs.Text.{Reads}
use Rattle.grammar.specs.Laws.{OneProgram, NeverWrong, Further}
use Rattle.processor.specs.Machine.{Machine, goes, halts, faults, after, shown}
use Rattle.image.specs.Image.{Image, row, Sound, size, Ready}
use Rattle.lower.specs.declared.Unbuilt.{Unbuilt}
use Rattle.lower.specs.declared.Unbuilt.TheVariants.{ImageFull, NotYet, NoProgram, Few}

-- the stage that is built so far: texts of a later one are answered `NotYet`
abbrev pub landed : ℕ
landed = 0

-- how many words the stack has
abbrev pub stack_words : Image → ℕ → ℕ → ℕ
stack_words i a top = top - (a + size i)

-- one of the marks of a run: what the open calls asked for when a call began, with as much put out and left to read as then
pub data Among (m : Mark) : List Mark → Type 0 where
  first : {ms : List Mark} → Among m (m ∷ ms)
  later : {n : Mark} {ms : List Mark} → Among m ms → Among m (n ∷ ms)

-- the stack of k words is too small for a call that the program makes, with as much put out and left to read as the board has
abbrev pub StackShort : Prog → List ℕ → ℕ → Machine → Type 0
StackShort p ins k z =
    (n : ℕ) × (s : State) × (m : Mark) × (state_of (means p ins n) ≡ some s) × Among m s.calls × (k < m.held)
    × (m.shown ≡ length z.outs) × (m.left ≡ length z.ins)

-- the board m, with the image i loaded at a, does what the program p means
pub record Right (p : Prog) (i : Image) (a top : ℕ) (ins : List ℕ) (m : Machine) : Type 0 where
  -- every instruction is one, every address is there
  pub never_faults : (k : ℕ) → after k m ≡ faults → ⊥
  -- what it has put out is what the program puts out, so far
  pub shows : (k : ℕ) → (n : ℕ) × Front (shown (after k m)) (outs_of (means p ins n))
  -- and it doesn't stay behind
  pub follows : (n : ℕ) → (k : ℕ)
      × (Front (outs_of (means p ins n)) (shown (after k m)) ⊎ ((x : Machine) × (after k m ≡ halts 4 0 x) × StackShort p ins (stack_words i a top) x))
  -- it leaves alone what isn't its: below the image, and behind the stack's end
  pub outside : (k : ℕ) (x : Machine) → after k m ≡ goes x → (take a x.mem ≡ take a m.mem) × (drop top x.mem ≡ drop top m.mem)
  -- it ends as the program ends, and only then
  pub ends : (k c x : ℕ) (z : Machine) → after k m ≡ halts c x z →
      ((c ≡ 0) × ((n : ℕ) × (s : State) × (means p ins n ≡ val (word x) s) × (z.outs ≡ s.outs) × (z.ins ≡ s.ins)))
      ⊎ (((c ≡ 3) × ((n : ℕ) × (s : State) × (means p ins n ≡ trap x s) × (z.outs ≡ s.outs) × (z.ins ≡ s.ins)))
      ⊎ ((c ≡ 4) × StackShort p ins (stack_words i a top) z))
  pub comes_to : (n : ℕ) → (IsSpent (means p ins n) → ⊥) → (k c x : ℕ) × (z : Machine) × (after k m ≡ halts c x z)

-- wherever it is loaded, whatever else the memory and the registers hold, and whatever there is to read
abbrev pub RunsRight : Prog → Image → Type 0
RunsRight p i = (a top : ℕ) (mem ins : List ℕ) (m : Machine) → Ready i a top mem ins m → Right p i a top ins m

-- what `build` answers for the text t, and how the words lent for the image go from o to o'
abbrev pub BuiltSays : List ℕ → List ℕ → List ℕ → Result ℕ Unbuilt → Type 0
-- the image i of the program p was written, n words long; it is sound, does what p means, and is within its bounds
BuiltSays t o o' (Ok n) =
    (p : Prog) × (i : Image) × Reads t p × (stage p ≤ landed) × Sound i × RunsRight p i
    × (n ≤ 4096 + 8 * length t) × (i.noughts ≤ 4096 + (all_words p + totals p))
    × (length (row i) ≡ n) × (take n o' ≡ row i) × (drop n o' ≡ drop n o)
BuiltSays t o o' (Err ImageFull) = (p : Prog) × Reads t p × (stage p ≤ landed) × (length o < 4096 + 8 * length t) × (o' ≡ o)
BuiltSays t o o' (Err (NotYet n)) = (p : Prog) × Reads t p × (stage p ≡ n) × (landed < n) × (o' ≡ o)
BuiltSays t o o' (Err NoProgram) = ((p : Prog) → Reads t p → ⊥) × (o' ≡ o)
BuiltSays t o o' (Err Few) = o' ≡ o

-- the laws of texts and of the meaning, which every use of the promise rests on
pub record Parts : Type 0 where
  pub one_program : OneProgram
  pub never_wrong : NeverWrong
  pub further : Further

-- the whole promise, with w work words lent
pub record BuiltPost (t : List ℕ) (w : ℕ) (o o' : List ℕ) (r : Result ℕ Unbuilt) : Type 0 where
  pub says : BuiltSays t o o' r
  pub parts : Parts
  pub few : (w < 65536 + 16 * length t) ↔ (r ≡ Err Few)
