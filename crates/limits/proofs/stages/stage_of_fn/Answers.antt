-- `stage_of_fn`: the stage of a function, of its names and its body.
use Rattle.std.proofs.Common.{arith}
use Rattle.rows.specs.Nodes.{nodes_b}
use Rattle.rows.specs.Trees.{locals}
use Rattle.limits.proofs.BodyLaws.{closed_body}
use Rattle.limits.proofs.Places.{body_at}
use Rattle.limits.proofs.StageLaws.{stage-locals, stage_body}
use Rattle.limits.proofs.stages.stage_of_fn.Goals as goal

pub returns : goal.returns
returns c = λ g h.
    let d = c.head_of.ensures g h in
    let b = c.end.ensures c.args.row.now (locals g) d.locals in
    let l = c.stage_of_locals.ensures (locals g) d.locals in
    let t = c.stage_of_nodes.ensures (nodes_b g.body) (c.new-nodes.ensures.left (nodes_b g.body) (body_at g d.body b) (closed_body g.body)) in
    omega (arith, stage-locals g, stage_body g.body, c.max.ensures)
