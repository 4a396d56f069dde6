-- `push_files`: file by file.
use Rattle.std.proofs.Common.{sym, subst}
use Rattle.rows.specs.Trees.{file_row}
use Rattle.limits.specs.Entries.{Left}
use Rattle.limits.proofs.EntryLaws.{rest_next, rest_none}
use Rattle.resolver.proofs.ItemLoops.{right-all}
use Rattle.resolver.proofs.Walking.{lent_none, lent-more, pushing_none, pushing_more, pushing_all}
use Rattle.resolver.proofs.items.push_files.Goals as goal

pub loop-file-init : goal.loop-file-init
loop-file-init c = (
  lent_none c.args.out.now,
  λ p so. record { ts = p; left = subst (λ s. Left file_row c.args.row.now s p) (sym c.into_iter-file-iterator.ensures.into_iter_gives) (c.files_of-file-items.ensures p so.is); holds = pushing_none p c.args.out.now (right-all p so.right) },
)

pub loop-file-preserved : goal.loop-file-preserved
loop-file-preserved c =
    let i = c.loop-file.invariant in
    (lent-more i.0 c.push_items.ensures.lent, λ p so. rest_next (Left file_row) (i.1 p so) c.in-Some.ensures.steps (λ f fs hf r v. pushing_more f fs v (λ kf. c.push_items.ensures.pushed p f so kf hf)))

pub returns : goal.returns
returns c =
    let i = c.loop-file.invariant in
    record { lent = i.0; pushed = λ p so. pushing_all (rest_none (Left file_row) (i.1 p so) c.in-None.ensures.steps) }
