-- Where functions and steps begin, as tables; and steps and functions as they stand in a row.
use Rattle.std.specs.Prelude.{◌≡◌, ℕ, ◌+◌, ◌*◌, ◌<◌, ◌≤◌, true, List, [], ◌∷◌, ◌++◌, length, map, slice_index}
use Rattle.language.specs.Words.{all}
use Rattle.rows.specs.Trees.{list_row}
use Rattle.rows.specs.Has.{Has}
use Rattle.steps.specs.Steps.{Step, MFn, MProg}
use Rattle.steps.specs.Fits.{Each}
use Rattle.generator.specs.StepRows.{step_words, fn_words}
use Rattle.lower.specs.Lower.{width, pro_width, fun_width, entry_in}
use Rattle.lower.specs.Core.{core_step, CoreFn}
use Rattle.assembler.specs.declared.function.Function.{Function}
use Rattle.assembler.specs.declared.frame.Frame.{Frame}
use Rattle.assembler.specs.Frames.{entry_at, step_place}

-- the steps of a function, the first one at place q
abbrev pub starts : MProg → MFn → List Step → ℕ → List ℕ
starts m f [] q = []
starts m f (s ∷ ss) q = q ∷ starts m f ss (q + width m f s)

-- the functions, and the steps of all of them
abbrev pub begins : MProg → List MFn → ℕ → List ℕ
begins m [] q = []
begins m (f ∷ fs) q = q ∷ begins m fs (q + fun_width m f)

abbrev pub all_starts : MProg → List MFn → ℕ → List ℕ
all_starts m [] q = []
all_starts m (f ∷ fs) q = starts m f f.code (q + pro_width f) ++ all_starts m fs (q + fun_width m f)

-- how many steps there are
abbrev pub steps_in : List MFn → ℕ
steps_in [] = 0
steps_in (f ∷ fs) = length f.code + steps_in fs

-- steps of stage 0, by their words
pub record StepsAre (steps : List (List ℕ)) (ss : List Step) : Type 0 where
  pub is : steps ≡ map step_words ss
  pub core : Each (λ s. core_step s ≡ true) ss

-- so many functions of stage 0 stand first in the row w
pub record FunctionsAre (w : List ℕ) (count : ℕ) (fs : List MFn) : Type 0 where
  pub has : Has w 0 (list_row fn_words fs)
  pub long : count ≡ length fs
  pub core : Each CoreFn fs

-- what was read is this function
pub record Head (r : Function) (f : MFn) : Type 0 where
  pub params : r.params ≡ f.params
  pub vars : r.vars ≡ f.vars
  pub places : r.places ≡ f.places
  pub steps : r.steps.now ≡ map step_words f.code

-- the code's view of a function is that of the lowering: steps begin at 'at'
pub record Framed (F : Frame) (m : MProg) (f : MFn) (at : ℕ → ℕ) : Type 0 where
  pub words : F.words ≡ m.words
  pub small : 4 * m.words < all
  pub no_arrays : m.arrays ≡ []
  pub places : F.function.places ≡ f.places
  pub steps : (t : ℕ) → t < length f.code → step_place F t ≡ at t
  pub calls : (h : ℕ) → 1 ≤ h → h < length m.funs → entry_at F h ≡ entry_in m h

-- what is known of the words at the top and of where functions begin
pub record Tabled (m : MProg) (count : ℕ) (entries : List ℕ) : Type 0 where
  pub words : count ≡ m.words
  pub small : 4 * m.words < all
  pub no_arrays : m.arrays ≡ []
  pub calls : (h : ℕ) → 1 ≤ h → h < length m.funs → slice_index entries h ≡ entry_in m h
