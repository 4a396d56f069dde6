-- `push_function`: its head, its own arrays, its nodes.
use Rattle.std.proofs.Common.{sym, ap, ◌∙◌}
use Rattle.rows.specs.Nodes.{nodes_b}
use Rattle.rows.specs.Trees.{map_list, of_param, locals}
use Rattle.steps.specs.Generate.{words_of}
use Rattle.limits.specs.Body.{NodesLeft}
use Rattle.limits.proofs.BodyLaws.{closed_body}
use Rattle.limits.proofs.EntryLaws.{count_is}
use Rattle.limits.proofs.Places.{body_at, long_params}
use Rattle.resolver.proofs.CheckedNodes.{checked_body}
use Rattle.resolver.proofs.Locals.{param_slots}
use Rattle.resolver.proofs.Routines.{few-of, few-nodes, routine-pushed}
use Rattle.resolver.proofs.Walking.{lent_none, lent-more, lent-pushed}
use Rattle.resolver.proofs.function.push_function.Goals as goal

pub returns : goal.returns
returns c = record {
  lent = lent-more (lent-pushed (lent_none c.args.out.now) c.push_all.ensures) (lent-more c.push_arrays.ensures.lent c.push_nodes.ensures.lent);
  pushed = λ p f g so ok at1.
      let d = c.head_of-head.ensures g at1.item in
      let few = few-of p f g ok in
      let hb = body_at g d.body (c.end.ensures c.args.function.file.row.now (locals g) d.locals) in
      let nl = c.new-nodes.ensures.left (nodes_b g.body) hb (closed_body g.body) in
      let ln = few-nodes (nodes_b g.body) so.short hb in
      let en = count_is NodesLeft nl c.count.ensures.ran in
      let em = c.count_words-words.ensures (map_list of_param g.params) d.params ∙ ap words_of (param_slots g.params) in
      let ep = c.len.ensures ∙ sym d.params.long ∙ long_params g in
      routine-pushed p f g few ep d.vars d.arrays ln em c.saturating_sub-arrays.ensures en c.word.ensures c.word-2.ensures c.word-3.ensures c.word-4.ensures c.word-5.ensures c.push_all.ensures (c.push_arrays.ensures.pushed g.arrs (c.own_arrays.ensures g d) few.sized) (c.push_nodes.ensures.pushed p f g (nodes_b g.body) so ok at1 nl (checked_body p f g ok));
}
