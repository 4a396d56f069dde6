-- `check_body`: node by node.
use Rattle.std.proofs.Common.{sym, ap, ◌∙◌, subst, arith}
use Rattle.rows.specs.Nodes.{nodes_b}
use Rattle.rows.specs.NodeTags.{tag_no}
use Rattle.rows.proofs.NodeRows.{node_tag}
use Rattle.limits.specs.declared.nodes.Body.{Body}
use Rattle.limits.specs.Body.{NodesLeft}
use Rattle.limits.proofs.BodyLaws.{closed_body}
use Rattle.limits.proofs.EntryLaws.{rest_by, rest_next, rest_none}
use Rattle.names.proofs.NodeEffects.{tag_is}
use Rattle.names.proofs.BodyNodes.{checking_none, checking_more, checking_last, checking_refused, deeper-le}
use Rattle.names.proofs.function.Function.check_body.Goals as goal

pub loop-node-init : goal.loop-node-init
loop-node-init c = (
  c.requires,
  omega (arith, ap (λ (s : Body). s.left) c.into_iter-node-iterator.ensures.into_iter_gives, c.new-node-items.ensures.most),
  omega (arith, ap (λ (s : Body). s.left) c.into_iter-node-iterator.ensures.into_iter_gives, c.new-node-items.ensures.most),
  λ p f g at1.
      record { ts = nodes_b g.body; left = subst (λ s. NodesLeft c.args.self.file.row.now s (nodes_b g.body)) (sym c.into_iter-node-iterator.ensures.into_iter_gives) (c.new-node-items.ensures.left (nodes_b g.body) (c.body_of.ensures g at1.item) (closed_body g.body)); holds = checking_none p f g },
)

pub check_node-requires : goal.check_node-requires
check_node-requires c = let i = c.loop-node.invariant in let l = i.0 in let m = i.1 in let n = (c.in-Some.ensures.goes.on tt).2 in omega arith

pub loop-node-preserved : goal.loop-node-preserved
loop-node-preserved c =
    let i = c.loop-node.invariant in
    let grows = c.in-Some-check_node.ensures.grows in
    let deep = deeper-le (tag_no c.tag_at.result) c.loop-node.depth in
    let n = (c.in-Some.ensures.goes.on tt).2 in
    let i0 = i.0 in
    let i1 = i.1 in
    let i2 = i.2 in
    let kept = c.check_node.ensures.lent.kept in (
      omega arith,
      omega arith,
      omega (arith, c.depth_behind-depth.ensures),
      λ p f g at1.
          rest_next NodesLeft (i.3 p f g at1) c.in-Some.ensures.steps
          (λ t ts h r v. checking_more t ts v (omega arith) (ap tag_no (c.tag_at.ensures t h) ∙ sym (node_tag t h) ∙ tag_is t h) (λ st q. c.in-Some-check_node.ensures.leaves p f g at1 t st h q) c.depth_behind-depth.ensures),
    )

pub returns-in_default : goal.returns-in_default
returns-in_default c = λ p f g at1.
    rest_by NodesLeft (c.loop-node.invariant.3 p f g at1) c.in-Some.ensures.steps (λ t ts h r v. checking_refused t ts v (λ st q. c.in_default.ensures.leaves p f g at1 t st h q))

pub returns : goal.returns
returns c = λ p f g at1. checking_last (rest_none NodesLeft (c.loop-node.invariant.3 p f g at1) c.in-None.ensures.steps)
