-- What the instructions of a step depend on, as the code has it.
use Rattle.std.specs.Prelude.{ℕ, ◌+◌, [], slice_index}
use Rattle.steps.specs.Steps.{MFn, MProg}
use Rattle.assembler.specs.declared.frame.Frame.{Frame}
use Rattle.assembler.specs.declared.function.Function.{Function}

-- a program as far as its words at the top are found by it
abbrev pub bare : ℕ → MProg
bare w = record { funs = []; tables = []; words = w; arrays = [] }

-- a function as far as its frame depends on it
abbrev pub routine : Function → MFn
routine f = record { params = f.params; arrays = 0; vars = f.vars; own = []; places = f.places; cost = 0; code = [] }

-- where functions begin, and the steps of the function at hand
abbrev pub entry_at : Frame → ℕ → ℕ
entry_at f g = slice_index f.tables.entries.now g

abbrev pub step_place : Frame → ℕ → ℕ
step_place f t = slice_index f.tables.places.now (f.first + t)
