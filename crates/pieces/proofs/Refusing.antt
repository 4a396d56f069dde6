-- Where a text is refused, from what is left behind its gap.
use Rattle.std.proofs.Common.{◌≡◌, ℕ, ◌-◌, List, length, drop, sym, ap, ◌∙◌, subst, arith, length-drop}
use Rattle.grammar.specs.Text.{pieces, gap}
use Rattle.pieces.specs.Cutting.{Starts, Body}
use Rattle.pieces.specs.Refusing.{Left}

pub left_body : (t b : List ℕ) → Body t b → Left t (length b)
left_body t b h =
    let l = ap length h.is ∙ length-drop h.at t in
    let f = h.fits in
    let k : length t - length b ≡ h.at = omega arith in
    let e : b ≡ drop (length t - length b) t = h.is ∙ ap (λ n. drop n t) (sym k) in
    record { within = omega arith; same = h.same ∙ ap (pieces gap) e; starts = subst Starts e h.starts }
