-- What the cutting of one piece answers: the piece, where it stands, and the rest. Rests on the grammar's Text; contracts cite it.
use Rattle.std.specs.Prelude.{◌≡◌, ℕ, ◌+◌, ◌-◌, ◌≤◌, true, false, List, [], ◌∷◌, length, take, drop, ◌==◌}
use Rattle.pieces.specs.declared.piece.Piece.{Piece}
use Rattle.pieces.specs.declared.piece.Piece.TheVariants.{Word, Text, Sign, Pair, Bad, End}
use Rattle.language.specs.Syntax.{Name}
use Rattle.grammar.specs.Text.{pieces, gap, blank, word_byte, word_bytes}

-- no blank and no note stands first
abbrev pub Starts : List ℕ → Type 0
Starts [] = Unit {0}
Starts (c ∷ cs) = (blank c ≡ false) × ((c == 35) ≡ false)

-- a piece in front of others
abbrev pub before : Piece → List Name → List Name
before (Word w) ps = w.now ∷ ps
before (Text w) ps = (34 ∷ w.now) ∷ ps
before (Sign d) ps = (d ∷ []) ∷ ps
before (Pair d c) ps = (d ∷ c ∷ []) ∷ ps
before Bad ps = (35 ∷ []) ∷ ps
before End ps = ps

-- how many of the text's bytes a piece has at least
abbrev pub some : Piece → ℕ
some (Word w) = length w.now
some (Text w) = 1 + length w.now
some (Sign d) = 1
some (Pair d c) = 2
some Bad = 1
some End = 0

-- a word's bytes stand right before the rest
abbrev pub Placed : Piece → List ℕ → List ℕ → Type 0
Placed (Word w) t r = (length w.now + length r ≤ length t) × (w.now ≡ take (length w.now) (drop (length t - length r - length w.now) t))
Placed (Text w) t r = Unit {0}
Placed (Sign d) t r = Unit {0}
Placed (Pair d c) t r = Unit {0}
Placed Bad t r = Unit {0}
Placed End t r = r ≡ []

-- a word is of word bytes, and a sign begins with none
abbrev pub Sane : Piece → Type 0
Sane (Word w) = (word_bytes w.now ≡ true) × (1 ≤ length w.now)
Sane (Text w) = Unit {0}
Sane (Sign d) = word_byte d ≡ false
Sane (Pair d c) = word_byte d ≡ false
Sane Bad = Unit {0}
Sane End = Unit {0}

-- no sign is a quote
abbrev pub Bare : Piece → Type 0
Bare (Word w) = Unit {0}
Bare (Text w) = Unit {0}
Bare (Sign d) = (d == 34) ≡ false
Bare (Pair d c) = (d == 34) ≡ false
Bare Bad = Unit {0}
Bare End = Unit {0}

pub record Cut (t : List ℕ) (p : Piece) (r : List ℕ) : Type 0 where
  pub said : pieces gap t ≡ before p (pieces gap r)
  pub less : some p + length r ≤ length t
  pub rest : r ≡ drop (length t - length r) t
  pub placed : Placed p t r
  pub sane : Sane p
  pub bare : Bare p

-- the body b of a text t: what is left behind the gap
pub record Body (t b : List ℕ) : Type 0 where
  pub at : ℕ
  pub fits : at ≤ length t
  pub is : b ≡ drop at t
  pub same : pieces gap t ≡ pieces gap b
  pub starts : Starts b

-- how a piece is spelled
abbrev pub spelled : Piece → Name
spelled (Word w) = w.now
spelled (Text w) = 34 ∷ w.now
spelled (Sign d) = d ∷ []
spelled (Pair d c) = d ∷ c ∷ []
spelled Bad = 35 ∷ []
spelled End = []
