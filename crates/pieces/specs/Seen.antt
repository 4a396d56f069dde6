-- What the next piece of a text is seen as: by an expression (Look), or as a sign, a word, a name, a number or a text that is wanted there.
-- Rests on the model parser's tables (grammar, Parse); the contracts of `see`, `see_op` and of what eats pieces cite it.
use Rattle.std.specs.Prelude.{◌≡◌, ℕ, ◌+◌, ◌<◌, ◌≤◌, Bool, true, false, not, List, [], ◌∷◌, length, ◌==◌}
use Rattle.std.proofs.Math.Option.{Option, some, none}
use Rattle.pieces.specs.declared.seen.Look.{Look}
use Rattle.pieces.specs.declared.seen.Look.TheVariants.{Num, Named, Tie, Minus, Before, OpenRound, ShutRound, OpenSquare, Comma, Len, Call, In, Other, End}
use Rattle.pieces.specs.declared.seen.Op.{Op}
use Rattle.pieces.specs.declared.seen.Op.TheVariants.{Or, And, Two}
use Rattle.pieces.specs.declared.seen.Binary.{Binary}
use Rattle.pieces.specs.declared.seen.Binary.TheVariants.{Add, Subtract, Multiply, Divide, Remainder, Equal, Unequal, Less, LessOrEqual, Greater, GreaterOrEqual, BitAnd, BitOr, BitXor, ShiftLeft, ShiftRight}
use Rattle.pieces.specs.declared.seen.Unary.{Unary}
use Rattle.pieces.specs.declared.seen.Unary.TheVariants.{Negate, Not, Invert}
use Rattle.pieces.specs.declared.piece.Piece as cut
use Rattle.pieces.specs.declared.piece.Piece.TheVariants as cuts
use Rattle.pieces.specs.declared.piece.Piece.TheVariants.{Word, Text, Sign, Pair, Bad}
use Rattle.language.specs.Syntax.{pick, opt, Name, same, Expr}
use Rattle.grammar.specs.Text.{pieces, gap, word_byte, word_bytes, is_name}
use Rattle.grammar.specs.Parse as parse
use Rattle.grammar.specs.ParseAll.{in_quotes}
use Rattle.grammar.specs.Parse.{Piece, p_num, p_name, p_op, p_minus, p_before, p_lp, p_rp, p_lb, p_comma, p_len, p_call, p_in, p_other, look, Entry, tie, o_or, o_and, o_bin, join, got, bind, climb, reader, num_of}

-- the numbers of operators in trees
abbrev pub binary_number : Binary → ℕ
binary_number Add = 0
binary_number Subtract = 1
binary_number Multiply = 2
binary_number Divide = 3
binary_number Remainder = 4
binary_number Equal = 5
binary_number Unequal = 6
binary_number Less = 7
binary_number LessOrEqual = 8
binary_number Greater = 9
binary_number GreaterOrEqual = 10
binary_number BitAnd = 11
binary_number BitOr = 12
binary_number BitXor = 13
binary_number ShiftLeft = 14
binary_number ShiftRight = 15

abbrev pub unary_number : Unary → ℕ
unary_number Negate = 0
unary_number Not = 1
unary_number Invert = 2

-- how tightly an operator between two holds
abbrev pub binary_level : Binary → ℕ
binary_level Add = 6
binary_level Subtract = 6
binary_level Multiply = 7
binary_level Divide = 7
binary_level Remainder = 7
binary_level Equal = 2
binary_level Unequal = 2
binary_level Less = 2
binary_level LessOrEqual = 2
binary_level Greater = 2
binary_level GreaterOrEqual = 2
binary_level BitAnd = 4
binary_level BitOr = 3
binary_level BitXor = 3
binary_level ShiftLeft = 5
binary_level ShiftRight = 5

abbrev pub level_of : Op → ℕ
level_of Or = 0
level_of And = 1
level_of (Two o) = binary_level o

-- an operator, as the model says it
abbrev pub op_of : Op → parse.Op
op_of Or = o_or
op_of And = o_and
op_of (Two o) = o_bin (binary_number o)

-- as the model says it
abbrev pub piece_of : Look → Piece
piece_of (Num n) = p_num n
piece_of (Named w) = p_name
piece_of (Tie o) = p_op (tie (level_of o) (op_of o))
piece_of Minus = p_minus
piece_of (Before o) = p_before (unary_number o)
piece_of OpenRound = p_lp
piece_of ShutRound = p_rp
piece_of OpenSquare = p_lb
piece_of Comma = p_comma
piece_of Len = p_len
piece_of Call = p_call
piece_of In = p_in
piece_of Other = p_other
piece_of End = p_other

-- the lines of a table whose keys are of one class: words, signs of one byte, of two
abbrev pub class : Name → ℕ
class w = pick (word_bytes w) 0 (length w)

abbrev pub keep : {A : Type 0} → ℕ → List (Entry A) → List (Entry A)
keep n [] = []
keep n (e ∷ es) = pick (n == class e.key) (e ∷ keep n es) (keep n es)

-- what holds of a piece besides: a number is small, a name is one
abbrev pub Fine : Look → Name → Type 0
Fine (Num n) x = n < 10000000000
Fine (Named w) x = (x ≡ w.now) × (is_name x ≡ true) × (length x ≤ 32)
Fine (Tie o) x = Unit {0}
Fine Minus x = Unit {0}
Fine (Before o) x = Unit {0}
Fine OpenRound x = Unit {0}
Fine ShutRound x = Unit {0}
Fine OpenSquare x = Unit {0}
Fine Comma x = Unit {0}
Fine Len x = Unit {0}
Fine Call x = Unit {0}
Fine In x = Unit {0}
Fine Other x = Unit {0}
Fine End x = ⊥

-- a spelling is seen as k
pub record Looks (k : Look) (x : Name) : Type 0 where
  pub is : look x ≡ piece_of k
  pub fine : Fine k x

-- a piece that was cut is seen as k
abbrev pub LooksAs : Look → cut.Piece → Type 0
LooksAs k (Word w) = Looks k w.now
LooksAs k (Text w) = Looks k (34 ∷ w.now)
LooksAs k (Sign d) = Looks k (d ∷ [])
LooksAs k (Pair d c) = Looks k (d ∷ c ∷ [])
LooksAs k Bad = Looks k (35 ∷ [])
LooksAs k cuts.End = k ≡ End

-- a piece that is seen so stands first in t, and r is behind it
pub record First (k : Look) (t r : List ℕ) : Type 0 where
  pub word : Name
  pub said : pieces gap t ≡ word ∷ pieces gap r
  pub is : look word ≡ piece_of k
  pub fine : Fine k word
  pub less : length r + length word ≤ length t
  pub some : 1 ≤ length word

-- no piece stands in t
pub record Nothing (t r : List ℕ) : Type 0 where
  pub said : pieces gap t ≡ []
  pub less : length r ≤ length t

-- what `see` answers
abbrev pub Seen : Look → List ℕ → List ℕ → Type 0
Seen (Num n) t r = First (Num n) t r
Seen (Named w) t r = First (Named w) t r
Seen (Tie o) t r = First (Tie o) t r
Seen Minus t r = First Minus t r
Seen (Before o) t r = First (Before o) t r
Seen OpenRound t r = First OpenRound t r
Seen ShutRound t r = First ShutRound t r
Seen OpenSquare t r = First OpenSquare t r
Seen Comma t r = First Comma t r
Seen Len t r = First Len t r
Seen Call t r = First Call t r
Seen In t r = First In t r
Seen Other t r = First Other t r
Seen End t r = Nothing t r

-- the pieces behind one that is wanted, and behind a name with it
abbrev pub ate : Name → List Name → Option (List Name)
ate w [] = none
ate w (x ∷ s) = pick (same x w) (some s) none

abbrev pub is_no_name : List Name → Bool
is_no_name [] = true
is_no_name (x ∷ s) = not (is_name x)

-- a sign that begins nothing else
abbrev pub Signy : ℕ → Type 0
Signy c = (word_byte c ≡ false) × ((c == 34) ≡ false) × ((c == 35) ≡ false)

pub record Ate (w : Name) (t r : List ℕ) : Type 0 where
  pub said : pieces gap t ≡ w ∷ pieces gap r
  pub less : length r + length w ≤ length t

pub record AteName (w : Name) (t r : List ℕ) : Type 0 where
  pub said : pieces gap t ≡ w ∷ pieces gap r
  pub ok : is_name w ≡ true
  pub less : length r + length w ≤ length t
  pub some : 1 ≤ length w
  pub short : length w ≤ 32

-- an operator between two stands first; or none does
pub record Tied (o : Op) (t r : List ℕ) : Type 0 where
  pub taken : (n : ℕ) (a : Expr) → n ≤ level_of o → reader.chain n a (pieces gap t) ≡ bind (climb reader (level_of o + 1) (pieces gap r)) (λ b q. reader.chain n (join (op_of o) a b) q)
  pub left : (n : ℕ) (a : Expr) → level_of o < n → reader.chain n a (pieces gap t) ≡ got a (pieces gap t)
  pub less : length r + 1 ≤ length t
  pub low : level_of o ≤ 7

abbrev pub Untied : List ℕ → Type 0
Untied t = (n : ℕ) (a : Expr) → reader.chain n a (pieces gap t) ≡ got a (pieces gap t)

-- a number first
abbrev pub no_num : List Name → Bool
no_num [] = true
no_num (w ∷ s) = opt (num_of w) true (λ n. false)

pub record AteNum (n : ℕ) (t r : List ℕ) : Type 0 where
  pub word : Name
  pub said : pieces gap t ≡ word ∷ pieces gap r
  pub is : num_of word ≡ some n
  pub less : length r + 1 ≤ length t
  pub small : n < 10000000000

-- a text in quotes first
abbrev pub no_text : List Name → Bool
no_text [] = true
no_text (w ∷ s) = opt (in_quotes w) true (λ ns. false)

pub record AteText (ns t r : List ℕ) : Type 0 where
  pub said : pieces gap t ≡ (34 ∷ ns) ∷ pieces gap r
  pub less : length r + length ns + 1 ≤ length t

-- no piece is left
abbrev pub no_piece : List Name → Bool
no_piece [] = true
no_piece (w ∷ s) = false
