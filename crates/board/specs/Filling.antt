-- What registers and memory hold before anything is loaded: all ones, or words that a seed gives.
use Rattle.std.specs.Prelude.{ℕ, zero, suc, ◌+◌, ◌*◌, ◌/◌, ◌%◌, ◌^◌, List, [], ◌∷◌, ◌++◌, replicate}
use Rattle.board.specs.declared.filling.Pattern.{Pattern}
use Rattle.board.specs.declared.filling.Pattern.TheVariants.{Ones, Random}

-- a linear congruence modulo 2^64; the upper half of each number is a word
abbrev pub next : ℕ → ℕ
next s = (s * 6364136223846793005 + 1442695040888963407) % 2 ^ 64

abbrev pub later : ℕ → ℕ → ℕ
later zero s = s
later (suc n) s = next (later n s)

abbrev pub stream : ℕ → ℕ → List ℕ
stream zero s = []
stream (suc n) s = stream n s ++ (next (later n s) / 2 ^ 32 ∷ [])

-- so many words, and what to fill from after them
abbrev pub filled : Pattern → ℕ → List ℕ
filled Ones n = replicate n 4294967295
filled (Random s) n = stream n s

abbrev pub left_of : Pattern → ℕ → Pattern
left_of Ones n = Ones
left_of (Random s) n = Random (later n s)
