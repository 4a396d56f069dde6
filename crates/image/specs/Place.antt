-- What the calls `place` and `start` promise, that a call has one answer, and that a board started as they say is ready.
-- Rests on Image and on the processor's state (Machine).
use Rattle.std.specs.Prelude.{◌≡◌, ℕ, ◌+◌, ◌*◌, ◌%◌, ◌<◌, ◌≤◌, T, ◌⊎◌, List, [], length, Result, Ok, Err}
use Rattle.std.proofs.Math.Option.{some}
use Rattle.language.specs.Syntax.{nth}
use Rattle.language.specs.Words.{all}
use Rattle.processor.specs.Machine.{Machine}
use Rattle.image.specs.declared.Placed.{Placed}
use Rattle.image.specs.declared.Refusal.{Refusal}
use Rattle.image.specs.declared.Refusal.TheVariants.{NoImage, TooLarge}
use Rattle.image.specs.declared.Start.{Start}
use Rattle.image.specs.Image.{Image, row, within, Sound, size, loaded, Ready}

-- what `place` answers for the row s, to be loaded at word a with the stack's part up to word top, and how the memory goes from mem to mem'
abbrev pub PlacedSays : List ℕ → ℕ → ℕ → List ℕ → List ℕ → Result Placed Refusal → Type 0
-- the row's image fits and is loaded; p has the entry's address, and that of the first word behind the image
PlacedSays s a top mem mem' (Ok p) = (i : Image) × (row i ≡ s) × Sound i × (a + size i ≤ top) × (top ≤ length mem) × (mem' ≡ loaded i a mem) × (p.entry ≡ 4 * (a + i.entry)) × (p.floor ≡ 4 * (a + size i))
-- no sound image has this row
PlacedSays s a top mem mem' (Err NoImage) = ((i : Image) → row i ≡ s → Sound i → ⊥) × (mem' ≡ mem)
-- the row's image passes word top, or word top the memory
PlacedSays s a top mem mem' (Err TooLarge) = (i : Image) × (row i ≡ s) × Sound i × ((top < a + size i) ⊎ (length mem < top)) × (mem' ≡ mem)

-- a row is that of one image
abbrev pub OneImage : Type 0
OneImage = (i j : Image) → row i ≡ row j → i ≡ j

-- the promise leaves one answer, and one memory
abbrev pub OneAnswer : Type 0
OneAnswer = (s : List ℕ) (a top : ℕ) (mem m n : List ℕ) (q r : Result Placed Refusal) → PlacedSays s a top mem m q → PlacedSays s a top mem n r → (q ≡ r) × (m ≡ n)

-- what `start` answers for the addresses p that `place` gave, and word top: three words, modulo 2^32
pub record StartSays (p : Placed) (top : ℕ) (r : Start) : Type 0 where
  pub pc_is : r.pc ≡ p.entry % all
  pub stack_is : r.stack ≡ 4 * top % all
  pub floor_is : r.floor ≡ p.floor % all

-- the board m is set as `start` said, with the memory mem and ins to read; the other registers hold any words
pub record SetUp (r : Start) (mem ins : List ℕ) (m : Machine) : Type 0 where
  pub is_mem : m.mem ≡ mem
  pub at : m.pc ≡ r.pc
  pub regs : length m.regs ≡ 32
  pub stack : nth m.regs 2 ≡ some r.stack
  pub floor : nth m.regs 3 ≡ some r.floor
  pub reads : m.ins ≡ ins
  pub none_yet : m.outs ≡ []
  pub words : T (within all m.regs)
  pub ins_words : T (within all ins)

-- an image that was placed in a memory of words, 2^32 bytes at most, on a board that is set up, is ready to run: it is the only image of this row
abbrev pub PlacedReady : Type 0
PlacedReady = (s : List ℕ) (a top : ℕ) (mem mem' ins : List ℕ) (p : Placed) (r : Start) (m : Machine)
    → PlacedSays s a top mem mem' (Ok p) → StartSays p top r → SetUp r mem' ins m → 4 * length mem ≤ all → T (within all mem)
    → (i : Image) → row i ≡ s → Ready i a top mem ins m
