-- A small program in memory, followed by the definition: it adds up 4 to 1 and puts the sum out; then the sum is stored, loaded,
-- multiplied by itself, and the program ends with the product.
use Rattle.std.specs.Prelude.{◌≡◌, ℕ, List, [], ◌∷◌, ◌++◌, replicate}
use Rattle.processor.specs.Machine.{Machine, Next, goes, halts, faults, after}

unfoldable pub loop_words : List ℕ
loop_words = 1299 ∷ 4194963 ∷ 5571891 ∷ 4294083219 ∷ 4261584099 ∷ 1050771 ∷ 115 ∷ 4271975971 ∷ 4290847491 ∷ 40043827 ∷ 2195 ∷ 115 ∷ []

-- the words and eight noughts, with register 2 above some of them
unfoldable pub loop_start : Machine
loop_start = record { regs = 0 ∷ 0 ∷ 64 ∷ replicate 29 0; pc = 0; mem = loop_words ++ replicate 8 0; ins = []; outs = [] }

-- at its end, with this word, and these put out
abbrev pub Ended : ℕ → List ℕ → Next → Type 0
Ended x ws (goes m) = ⊥
Ended x ws (halts c y m) = (c ≡ 0) × (y ≡ x) × (m.outs ≡ ws)
Ended x ws faults = ⊥

abbrev pub LoopRuns : Type 0
LoopRuns = Ended 100 (10 ∷ []) (after 30 loop_start)
