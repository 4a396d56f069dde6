-- `push_nodes`: node by node.
use Rattle.std.proofs.Common.{sym, ◌∙◌, subst}
use Rattle.steps.specs.Generate.{scope, slots_of}
use Rattle.limits.specs.Body.{NodesLeft}
use Rattle.limits.proofs.EntryLaws.{rest_next, rest_none}
use Rattle.resolver.proofs.Walking.{lent_none, lent-pushed, pushed_as, pushing_none, pushing_more, pushing_all}
use Rattle.resolver.proofs.Nodes.{nodes_to}
use Rattle.resolver.proofs.body.push_nodes.Goals as goal

pub loop-node-init : goal.loop-node-init
loop-node-init c = (
  lent_none c.args.out.now,
  λ p f g ns so ok at1 h k. record { ts = ns; left = subst (λ s. NodesLeft c.args.function.file.row.now s ns) (sym c.into_iter-node-iterator.ensures.into_iter_gives) h; holds = pushing_none ns c.args.out.now k },
)

pub loop-node-preserved : goal.loop-node-preserved
loop-node-preserved c =
    let i = c.loop-node.invariant in (
      lent-pushed i.0 c.push_all.ensures,
      λ p f g ns so ok at1 h k.
          rest_next NodesLeft (i.1 p f g ns so ok at1 h k) c.in-Some.ensures.steps
          (λ t ts ht r v. pushing_more t ts v (λ kt. pushed_as (c.from.ensures ∙ c.resolved_node.ensures p f g t so ok at1 ht kt) c.push_all.ensures)),
    )

pub returns : goal.returns
returns c =
    let i = c.loop-node.invariant in
    record { lent = i.0; pushed = λ p f g ns so ok at1 h k. pushed_as (nodes_to (scope p f (slots_of g)) ns) (pushing_all (rest_none NodesLeft (i.1 p f g ns so ok at1 h k) c.in-None.ensures.steps)) }
