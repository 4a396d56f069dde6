-- A board with an image loaded: what the loader promises of memory, and what it asks of the processor.
use Rattle.std.specs.Prelude.{◌≡◌, ℕ, ◌*◌, ◌%◌, List, Result, Ok, Err}
use Rattle.language.specs.Syntax.{put}
use Rattle.language.specs.Words.{all}
use Rattle.image.specs.declared.Placed.{Placed}
use Rattle.image.specs.declared.Refusal.{Refusal}
use Rattle.image.specs.Place.{PlacedSays}
use Rattle.processor.specs.declared.cpu.Cpu.{Cpu}

-- register 2 is the end of the stack's part, register 3 where it begins; the others are as they were given
abbrev pub Starts : List ℕ → ℕ → ℕ → List ℕ → List ℕ → List ℕ → Result Cpu Refusal → Type 0
Starts image a top regs mem mem' (Ok c) = (p : Placed) × PlacedSays image a top mem mem' (Ok p) × (c.pc ≡ p.entry % all) × (c.regs ≡ put (put regs 2 (4 * top % all)) 3 (p.floor % all))
Starts image a top regs mem mem' (Err e) = PlacedSays image a top mem mem' (Err e)
