-- Instructions written one behind the other.
use Rattle.std.specs.Prelude.{◌≡◌, ℕ, suc, ◌+◌, ◌≤◌, List, [], ◌∷◌, ◌++◌, length, take}
use Rattle.processor.specs.Instr.{encode}
use Rattle.processor.specs.declared.instr.Instr.{Instr}
use Rattle.lower.specs.Code.{LI, to_real}
use Rattle.assembler.specs.declared.code.Code.{Code}

-- a row that begins at place p, with the distances of its jumps
abbrev pub reals : ℕ → List LI → List Instr
reals p [] = []
reals p (x ∷ xs) = to_real p x ∷ reals (suc p) xs

abbrev pub encoded : List Instr → List ℕ
encoded [] = []
encoded (i ∷ is) = encode i ∷ encoded is

-- o has become p by these words behind what was written
pub record Grown (o p : Code) (ws : List ℕ) : Type 0 where
  pub is : take p.here p.words.now ≡ take o.here o.words.now ++ ws
  pub long : p.here ≡ o.here + length ws

-- o has become p by these instructions, if there was room for them
pub record Put (o p : Code) (is : List Instr) : Type 0 where
  pub grown : o.here + length is ≤ length o.words.now → Grown o p (encoded is)
  pub kept : length p.words.now ≡ length o.words.now
  -- it is still the same slice that is lent
  pub same : p.words.ghost_name ≡ o.words.ghost_name
