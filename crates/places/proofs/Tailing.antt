-- What is left behind a piece is what is left of the text.
use Rattle.std.proofs.Common.{◌≡◌, ℕ, ◌+◌, ◌-◌, ◌≤◌, List, length, drop, refl, ap, ◌∙◌, arith, length-drop}
use Rattle.std.proofs.lemmas.List.{drop-drop}
use Rattle.pieces.specs.declared.piece.Piece.{Piece}
use Rattle.pieces.specs.Cutting.{Cut}
use Rattle.places.specs.Tails.{Tail}

pub whole_tail : (t : List ℕ) → Tail t t
whole_tail t = record { at = 0; within = omega arith; is = refl }

pub tail_behind : {t r b : List ℕ} {p : Piece} → Tail t r → Cut r p b → Tail t b
tail_behind {t} {r} {b} {p} f c = record {
  at = f.at + (length r - length b);
  within = let k = f.within in let l = ap length f.is in omega (arith, length-drop f.at t);
  is = c.rest ∙ ap (drop (length r - length b)) f.is ∙ drop-drop (length r - length b) f.at t;
}
