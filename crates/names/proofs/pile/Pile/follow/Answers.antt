use Rattle.std.proofs.Common.{◌∙◌, arith}
use Rattle.names.proofs.Piles.{refused, keeps, puts}
use Rattle.names.proofs.pile.Pile.follow.Goals as goal

pub returns-then-not-top_fits-clause-leaves : goal.returns-then-not-top_fits-clause-leaves
returns-then-not-top_fits-clause-leaves c = λ Γ d t st v p. refused st v (c.if-not-top_fits.ensures v.asked st v.there (c.kinds.ensures ∙ p.is))

pub returns-in-Some-clause-leaves : goal.returns-in-Some-clause-leaves
returns-in-Some-clause-leaves c = λ Γ d t st v p. puts st v p (c.if-not-top_fits.ensures v.asked st v.there (c.kinds.ensures ∙ p.is)) (omega arith) (c.in-Some.is) (omega (arith, c.requires)) c.number_of.ensures

pub returns-in_default-clause-leaves : goal.returns-in_default-clause-leaves
returns-in_default-clause-leaves c = λ Γ d t st v p. keeps st v p (c.if-not-top_fits.ensures v.asked st v.there (c.kinds.ensures ∙ p.is)) (omega arith) c.in_default.is
