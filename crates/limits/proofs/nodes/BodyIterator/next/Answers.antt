-- `Body::next`: the first of a body's nodes that are left.
use Rattle.std.proofs.Common.{inl, inr, sym, refl, ◌∙◌, arith}
use Rattle.limits.proofs.BodyLaws.{body_first}
use Rattle.limits.proofs.nodes.BodyIterator.next.Goals.{in-End, in_default}
use Rattle.limits.proofs.nodes.BodyIterator.next.Goals as goal

pub returns-clause-steps : goal.returns-clause-steps
returns-clause-steps c = λ w ts k.
    body_first k (omega arith) (λ x. c.past_node-self.ensures x) refl
    (λ x h. let e = c.tag_at.ensures x h in
    elim c.match-tag_at.branch [ in-End v ↦ inl (sym e ∙ v.in-End.is, v.self-is) | in_default v ↦ inr (λ q. v.in_default.not-End (e ∙ q), omega (arith, v.self-is)) ])
