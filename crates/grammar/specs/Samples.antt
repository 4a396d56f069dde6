-- Texts tried on the definitions: how some are cut into pieces, and that the worked programs are read from their texts.
-- Rests on Text and Reading and on the language's Samples.
use Rattle.std.specs.Prelude.{◌≡◌, List, [], ◌∷◌, ◌++◌, ℕ, codes}
use Rattle.std.proofs.Math.Option.{some}
use Rattle.language.specs.Samples.{factorial, sums, tables}
use Rattle.grammar.specs.Text.{pieces, gap}
use Rattle.grammar.specs.Reading.{reading}

-- how texts are cut into pieces
pub record Cut : Type 0 where
  -- a text in quotes here is the list of its bytes
  pub bytes : codes "file a;" ≡ 102 ∷ 105 ∷ 108 ∷ 101 ∷ 32 ∷ 97 ∷ 59 ∷ []
  -- blanks need not stand between pieces, signs of two bytes are one piece, and a note is none
  pub statements :
      pieces gap (codes "x=a<<2;#n\ny=b>=c||!d")
      ≡ codes "x" ∷ codes "=" ∷ codes "a" ∷ codes "<<" ∷ codes "2" ∷ codes ";"
      ∷ codes "y" ∷ codes "=" ∷ codes "b" ∷ codes ">=" ∷ codes "c" ∷ codes "||" ∷ codes "!" ∷ codes "d" ∷ []
  -- signs join from the left, as far as they can
  pub signs : pieces gap (codes "<<=!==&&&") ≡ codes "<<" ∷ codes "=" ∷ codes "!=" ∷ codes "=" ∷ codes "&&" ∷ codes "&" ∷ []
  -- a note goes on behind byte 13, to byte 10
  pub notes : pieces gap (codes "a#b\rc\nd") ≡ codes "a" ∷ codes "d" ∷ []
  -- a quoted text is kept with the quote that opens it, and may hold the end of a line
  pub quotes : pieces gap (codes "x=\"a #\n\";") ≡ codes "x" ∷ codes "=" ∷ codes "\"a #\n" ∷ codes ";" ∷ []
  pub unended : pieces gap (codes "x=\"a;") ≡ codes "x" ∷ codes "=" ∷ codes "#" ∷ []

abbrev pub factorial_text : List ℕ
factorial_text = codes "file a; fn f(n) { if n == 0 { return 1; } return n * f(n - 1); } fn main() { out f(5); return 7; }"

abbrev pub sums_text : List ℕ
sums_text =
    codes "file a; use b: sum; fn main() { var i; array t[3]; while i < 3 { t[i] = in(); i = i + 1; } out sum(t); out t[3]; }\n"
    ++ codes "file b; fn sum(x[]) { var i, s; while i < len(x) { s = s + x[i]; i = i + 1; } return s; }"

abbrev pub tables_text : List ℕ
tables_text = codes "file a; fn f(x) { return x + 1; } fn g(x) { return 100 / x; } table t = f, g; fn main() { out call t[0](9); out call t[1](7); call t[1](0); }"

-- the texts above the worked programs of the language are read as those
pub record WorkedTexts : Type 0 where
  pub factorial_read : reading factorial_text ≡ some factorial
  pub sums_read : reading sums_text ≡ some sums
  pub tables_read : reading tables_text ≡ some tables
