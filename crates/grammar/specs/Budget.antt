-- What the bounds are for: for every program of a text, its frames, its image and its jumps fit.
-- Rests on Bounds; a generator states what its code costs as `Costs` and takes these.
use Rattle.std.specs.Prelude.{◌≡◌, List, [], ◌∷◌, ℕ, ◌+◌, ◌*◌, ◌^◌, ◌≤◌, ◌<◌, max, length}
use Rattle.language.specs.Syntax.{Item, i_word, i_arr, i_data, i_table, i_fn, i_use, Prog}
use Rattle.language.specs.Meaning.{cost, names_of}
use Rattle.grammar.specs.Text.{Reads}
use Rattle.grammar.specs.Bounds.{AllFns, deep_b, Costs, Fair, words}

-- the deepest function of a program
abbrev pub deepest_item : List Item → ℕ
deepest_item [] = 0
deepest_item (i_word x ∷ is) = deepest_item is
deepest_item (i_arr a ∷ is) = deepest_item is
deepest_item (i_data w x ns ∷ is) = deepest_item is
deepest_item (i_table x fs ∷ is) = deepest_item is
deepest_item (i_fn g ∷ is) = max (deep_b g.body) (deepest_item is)
deepest_item (i_use y xs ∷ is) = deepest_item is

abbrev pub deepest : Prog → ℕ
deepest [] = 0
deepest (f ∷ fs) = max (deepest_item f.items) (deepest fs)

-- the bound on depth is the least there is: some text's program comes to it
abbrev pub DeepAttained : Type 0
DeepAttained = (t : List ℕ) × (p : Prog) × Reads t p × (deepest p ≡ 593)

-- a frame with a place for every value that waits, for parameters, variables and arrays, and 431 words besides,
-- is no larger than what the meaning counts for the call
abbrev pub FramesFit : Type 0
FramesFit =
    (t : List ℕ) (p : Prog) → Reads t p →
    AllFns p (λ g. deep_b g.body + 431 + (length g.params + (length g.vars + names_of g.arrs)) ≤ cost g)

-- its places without the arrays' elements, two words for each array, are fewer than the 1,024 words that a signed offset of 12 bits spans
abbrev pub PlacesFit : Type 0
PlacesFit =
    (t : List ℕ) (p : Prog) → Reads t p →
    AllFns p (λ g. deep_b g.body + length g.params + length g.vars + 2 * length g.arrs ≤ 697)

-- code that 7 words for each byte of the text pay for, with 4,096 words that every image may have besides, is no longer than an image may be
abbrev pub ImageFits : Type 0
ImageFits = (σ : ℕ) (c : Costs) → Fair 7 σ c → (t : List ℕ) (p : Prog) → Reads t p → words c p + 4096 ≤ 4096 + 8 * length t

-- and a jump, which goes less than 2 ^ 18 words far, reaches from any word of it to any other
abbrev pub JumpsReach : Type 0
JumpsReach = (σ : ℕ) (c : Costs) → Fair 7 σ c → (t : List ℕ) (p : Prog) → Reads t p → words c p + 4096 < 2 ^ 18
