-- What the code promises: the processor as the code has it, with what is read and put out beside it, against the definition.
use Rattle.std.specs.Prelude.{◌≡◌, ℕ, ◌/◌, ◌%◌, ◌<◌, ◌≤◌, List, [], ◌∷◌, ◌++◌, length, take, drop, Some, None, Option, ◌==◌}
use mathlib.Core.Option.{none}
use Rattle.language.specs.Syntax.{pick, opt, nth, put}
use Rattle.language.specs.Words.{add}
use Rattle.processor.specs.Machine.{Machine, Next, goes, halts, faults, reads, step, after}
use Rattle.processor.specs.Instr.{exec}
use Rattle.processor.specs.declared.instr.Instr.{Instr}
use Rattle.processor.specs.declared.cpu.Cpu.{Cpu}
use Rattle.processor.specs.declared.cpu.Event.{Event}
use Rattle.processor.specs.declared.running.Ran.{Ran}
use Rattle.processor.specs.declared.cpu.Event.TheVariants.{Goes, Out, In, Halts}
use Rattle.processor.specs.declared.cpu.Halt.{Halt}
use Rattle.processor.specs.declared.cpu.Halt.TheVariants.{End, Trap, NoRoom, Fault}

abbrev pub machine : List ℕ → List ℕ → Cpu → List ℕ → Machine
machine ins outs c mem = record { regs = c.regs; pc = c.pc; mem = mem; ins = ins; outs = outs }

-- how a processor came to a halt
abbrev pub ends : Halt → Machine → Next
ends (End x) m = halts 0 x m
ends (Trap x) m = halts 3 x m
ends NoRoom m = halts 4 0 m
ends Fault m = faults

-- what an event says of the step, with the processor after it
abbrev pub says : Event → Machine → Next
says Goes m = goes m
says (Out x) m = goes (record { regs = m.regs; pc = m.pc; mem = m.mem; ins = m.ins; outs = m.outs ++ (x ∷ []) })
says In m = reads m m.ins
says (Halts h) m = ends h m

abbrev pub reg_of : List ℕ → ℕ → ℕ
reg_of rs r = pick (r == 0) 0 (opt (nth rs r) 0 (λ x. x))

abbrev pub load_of : List ℕ → ℕ → mathlib.Core.Option.Option ℕ
load_of mem a = pick (a % 4 == 0) (nth mem (a / 4)) none

-- a result in a register, and the next instruction; a jump with the way back in a register
abbrev pub put_cpu : Cpu → ℕ → ℕ → Cpu
put_cpu c r x = record { regs = put c.regs r x; pc = add c.pc 4 }

abbrev pub jump_cpu : Cpu → ℕ → ℕ → Cpu
jump_cpu c r a = record { regs = put c.regs r (add c.pc 4); pc = a }

abbrev pub at_cpu : Cpu → ℕ → Cpu
at_cpu c a = record { regs = c.regs; pc = a }

-- the place of an address, or that there is none
abbrev pub Located : ℕ → ℕ → Option ℕ → Type 0
Located n a None = a % 4 ≡ 0 → n ≤ a / 4
Located n a (Some i) = (a % 4 ≡ 0) × (i ≡ a / 4) × (i < n)

-- an instruction was followed, or a step was made, whatever there is to read and was put out
abbrev pub Followed : Instr → Cpu → List ℕ → Event → Cpu → List ℕ → Type 0
Followed i c mem e c' mem' = (ins outs : List ℕ) → exec i (machine ins outs c mem) ≡ says e (machine ins outs c' mem')

abbrev pub Stepped : Cpu → List ℕ → Event → Cpu → List ℕ → Type 0
Stepped c mem e c' mem' = (ins outs : List ℕ) → step (machine ins outs c mem) ≡ says e (machine ins outs c' mem')

-- what was asked for was given: a word that there is to read, or that there is none
abbrev pub given : Option ℕ → List ℕ → List ℕ
given None rest = []
given (Some x) rest = x ∷ rest

abbrev pub left : Option ℕ → List ℕ → List ℕ
left None rest = []
left (Some x) rest = rest

abbrev pub Answered : Option ℕ → Cpu → Cpu → Type 0
Answered next c c' = (rest outs mem : List ℕ) → reads (machine (given next rest) outs c mem) (given next rest) ≡ goes (machine (left next rest) outs c' mem)

-- a run that stopped at an event: all steps were made, or there was no room to put a word out, or it is at its end; a word to
-- read is never asked for
abbrev pub Stops : Event → ℕ → ℕ → ℕ → ℕ → Type 0
Stops Goes made steps shown room = made ≡ steps
Stops (Out x) made steps shown room = shown ≡ room
Stops In made steps shown room = ⊥
Stops (Halts h) made steps shown room = Unit {0}

-- a step that the processor goes on from
abbrev pub Going : Next → Type 0
Going (goes m) = Unit {0}
Going (halts c x m) = ⊥
Going faults = ⊥

-- a run of at most so many steps, from a processor with words to read and nothing put out
pub record RunsAs (steps : ℕ) (input : List ℕ) (c : Cpu) (mem output : List ℕ) (r : Ran) (c' : Cpu) (mem' output' : List ℕ) : Type 0 where
  pub in_budget : r.steps ≤ steps
  pub makes_some : 0 < steps → 0 < r.steps
  pub comes_to : after r.steps (machine input [] c mem) ≡ says r.event (machine (drop r.taken input) (take r.shown output') c' mem')
  pub goes_before : (j : ℕ) → j < r.steps → Going (after j (machine input [] c mem))
  pub stops : Stops r.event r.steps steps r.shown (length output)
  pub in_input : r.taken ≤ length input
  pub in_output : r.shown ≤ length output
  pub behind : drop r.shown output' ≡ drop r.shown output
