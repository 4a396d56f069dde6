-- Whether a text is a program, and which, is decided by `reading`: from the parser's soundness and completeness.
use mathlib.Core.Path.{◌≡◌, sym, ◌∙◌}
use mathlib.Core.Bool.{Bool, true, false, ◌&&◌}
use mathlib.Core.List.{List}
use mathlib.Core.Option.{some, none, none-ne-some}
use Prim.Native.Nat.{ℕ}
use lib.Dec.{T}
use Rattle.language.specs.Syntax.{pick, Prog}
use Rattle.language.specs.Checks.{ok}
use Rattle.grammar.specs.Text.{pieces, gap, AreFiles, Reads}
use Rattle.grammar.specs.Parse.{Res, fail, got}
use Rattle.grammar.specs.ParseAll.{parse}
use Rattle.grammar.specs.Reading.{small, checked, reading, ReadingSound, ReadingComplete, ReadingNone}
use Rattle.grammar.proofs.PieceKinds.{true_of}
use Rattle.grammar.proofs.ExprSound.{Post, post-got}
use Rattle.grammar.proofs.ItemSound.{All, parse-sound}
use Rattle.grammar.proofs.ItemComplete.{parse-complete}

pub reading-complete : ReadingComplete
unfolding reading
reading-complete t p h = rw (parse-complete h.said, true_of _ h.small, true_of _ h.sound)

pub reading-none : ReadingNone
reading-none t e p h = none-ne-some p (sym e ∙ reading-complete t p h)

both : (a b : Bool) (q p : Prog) → pick (a && b) (some q) none ≡ some p → T a × T b × (q ≡ p)
both true true q p e = (tt, tt, cc)
both true false q p e = absurd (none-ne-some p e)
both false b q p e = absurd (none-ne-some p e)

checked-sound : (t : List ℕ) (p : Prog) (m : Res Prog) → Post (All (pieces gap t)) m → checked (small t) m ≡ some p → Reads t p
checked-sound t p fail h e = absurd (none-ne-some p e)
checked-sound t p (got q r) h e =
    let k = both (small t) (ok q) q p e in
    let f : AreFiles (pieces gap t) q = (post-got h).1 in
    rw (← k.2) (record { said = f; small = k.0; sound = k.1 })

pub reading-sound : ReadingSound
unfolding reading
reading-sound t p e = checked-sound t p (parse (pieces gap t)) (parse-sound (pieces gap t)) e
