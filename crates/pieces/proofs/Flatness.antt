-- Brackets and signs piece by piece: pieces that are no sign of one byte open and shut nothing.
use Rattle.std.proofs.Common.{◌≡◌, ℕ, Bool, true, false, ◌&&◌, ◌||◌, List, [], ◌∷◌, refl, ap, arith}
use Rattle.pieces.specs.declared.piece.Piece.{Piece}
use Rattle.pieces.specs.declared.piece.Piece.TheVariants.{Word, Text, Sign, Pair, Bad, End}
use Rattle.language.specs.Syntax.{Name, same}
use Rattle.grammar.specs.Text.{word_bytes, opens, shuts, is_before, flat, calm}
use Rattle.pieces.specs.Cutting.{Sane, spelled}
use Rattle.pieces.specs.Flat.{opened_after, signed_after}
use Rattle.pieces.proofs.Looking.{same-no}

pub record Quiet (w : Name) : Type 0 where
  pub no_open : opens w ≡ false
  pub no_shut : shuts w ≡ false
  pub no_before : is_before w ≡ false

or_ff : (a b c : Bool) → a ≡ false → b ≡ false → c ≡ false → (a || (b || c)) ≡ false
or_ff a b c e f g = rw (e, f, g)

quiet_by : (w : Name) → ((a : ℕ) → same w (a ∷ []) ≡ false) → Quiet w
quiet_by w h = record { no_open = or_ff _ _ _ (h 40) (h 91) (h 123); no_shut = or_ff _ _ _ (h 41) (h 93) (h 125); no_before = or_ff _ _ _ (h 45) (h 33) (h 126) }

quiet_pair : (d b : ℕ) → Quiet (d ∷ b ∷ [])
quiet_pair d b = quiet_by (d ∷ b ∷ []) (λ a. same-no (d ∷ b ∷ []) (a ∷ []) (λ e. let y : ◌≡◌ {A = ℕ} 0 1 = cc in omega arith))

word_not : (w : Name) (k : Name) → word_bytes w ≡ true → word_bytes k ≡ false → same w k ≡ false
word_not w k h g = same-no w k (λ e. let f = ap word_bytes e in let y : ◌≡◌ {A = ℕ} 0 1 = cc in omega arith)

quiet_word : (w : Name) → word_bytes w ≡ true → Quiet w
quiet_word w h = record { no_open = or_ff _ _ _ (word_not w (40 ∷ []) h refl) (word_not w (91 ∷ []) h refl) (word_not w (123 ∷ []) h refl); no_shut = or_ff _ _ _ (word_not w (41 ∷ []) h refl) (word_not w (93 ∷ []) h refl) (word_not w (125 ∷ []) h refl); no_before = or_ff _ _ _ (word_not w (45 ∷ []) h refl) (word_not w (33 ∷ []) h refl) (word_not w (126 ∷ []) h refl) }

pub quiet : (p : Piece) → Sane p → ((a : ℕ) → p ≡ Sign a → ⊥) → Quiet (spelled p)
quiet (Word w) s n = quiet_word w.now s.0
quiet (Text w) s n = record { no_open = refl; no_shut = refl; no_before = refl }
quiet (Sign d) s n = absurd (n d refl)
quiet (Pair d b) s n = quiet_pair d b
quiet Bad s n = record { no_open = refl; no_shut = refl; no_before = refl }
quiet End s n = record { no_open = refl; no_shut = refl; no_before = refl }

pub open_quiet : (p : Piece) (n : ℕ) → Quiet (spelled p) → n ≡ opened_after p n
open_quiet p n q = rw (q.no_open, q.no_shut)

pub signs_quiet : (p : Piece) (n : ℕ) → Quiet (spelled p) → 0 ≡ signed_after p n
signs_quiet p n q = rw q.no_before

abbrev pub both : ℕ → ℕ → List Name → Bool
both n m s = flat n s && calm m s
