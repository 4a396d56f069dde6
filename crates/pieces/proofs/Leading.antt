-- How a statement begins, against the model's table.
use Rattle.std.proofs.Common.{◌≡◌, ℕ, true, false, List, [], ◌∷◌, sym, refl, ap, ◌∙◌, subst, nat_eq, Bor}
use Rattle.std.specs.Cmp.Lexicographic.{pointwise, same_text}
use Rattle.pieces.specs.declared.lead.Lead as code
use Rattle.pieces.specs.declared.lead.Lead.TheVariants.{Named, Other}
use Rattle.pieces.specs.declared.piece.Piece as cut
use Rattle.pieces.specs.declared.piece.Piece.TheVariants as cuts
use Rattle.pieces.specs.declared.piece.Piece.TheVariants.{Word, Text, Sign, Pair, Bad}
use Rattle.language.specs.Syntax.{Name}
use Rattle.grammar.specs.Text.{pieces, gap, word_bytes, is_name}
use Rattle.grammar.specs.Parse.{find}
use Rattle.grammar.specs.ParseAll.{l_other, leads, lead}
use Rattle.pieces.specs.Cutting.{Cut}
use Rattle.pieces.specs.Seen.{class, keep}
use Rattle.pieces.specs.Leads.{lead_of, head_lead, LeadFine, Leads, Led}
use Rattle.pieces.proofs.Looking.{find-keep, name-no, ok-short}

pub leads-name : (w : Bor (List ℕ)) → true ≡ is_name w.now → Leads (Named w) w.now
unfolding lead
leads-name w e = record { is = rw (← e); fine = (refl, sym e, ok-short w.now (sym e)) }

pub lead_is : (w : Name) → is_name w ≡ false → lead w ≡ find l_other leads w
unfolding lead
lead_is w e = rw e

pub leads_at : (w k : Name) (l : code.Lead) → true ≡ pointwise nat_eq w k → is_name k ≡ false → find l_other leads k ≡ lead_of l → LeadFine l w → Leads l w
leads_at w k l e n f g = record { is = ap lead (same_text w k e) ∙ lead_is k n ∙ f; fine = g }

pub leads-other : (w : Name) → false ≡ is_name w → find l_other leads w ≡ l_other → Leads Other w
leads-other w e f = record { is = lead_is w (sym e) ∙ f; fine = tt }

lead-class : (w : Name) (n : ℕ) → word_bytes w ≡ false → class w ≡ n → find l_other (keep n leads) w ≡ l_other → lead w ≡ l_other
lead-class w n h e f = lead_is w (name-no w h) ∙ find-keep l_other n leads w e ∙ f

pub lead-none : {t r : List ℕ} (p : cut.Piece) → Cut t p r → ((w : Bor (List ℕ)) → p ≡ Word w → ⊥) → head_lead (pieces gap t) ≡ l_other
lead-none (Word w) c n = absurd (n w refl)
lead-none (Text w) c n = ap head_lead c.said ∙ lead_is (34 ∷ w.now) (name-no (34 ∷ w.now) refl)
lead-none (Sign d) c n = ap head_lead c.said ∙ lead-class (d ∷ []) 1 (rw c.sane) (rw c.sane) refl
lead-none (Pair d b) c n = ap head_lead c.said ∙ lead-class (d ∷ b ∷ []) 2 (rw c.sane) (rw c.sane) refl
lead-none Bad c n = ap head_lead c.said ∙ lead_is (35 ∷ []) refl
lead-none cuts.End c n = ap head_lead (c.said ∙ ap (pieces gap) c.placed)

pub led_at : {k : code.Lead} (t r : List ℕ) (j : code.Lead) → k ≡ j → Led k t r → Led j t r
led_at t r j e a = subst (λ (x : code.Lead). Led x t r) e a
