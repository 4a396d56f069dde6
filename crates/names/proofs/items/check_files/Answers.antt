-- `check_files`: file by file.
use Rattle.std.proofs.Common.{Bool, ◌&&◌, sym, refl, ap, ◌∙◌, subst, arith}
use Rattle.rows.specs.Trees.{file_row}
use Rattle.limits.specs.Entries.{Left}
use Rattle.limits.proofs.EntryLaws.{rest_by, rest_next, rest_none}
use Rattle.names.specs.Resolved.{files_resolved}
use Rattle.names.proofs.items.check_files.Goals as goal

pub loop-file-init : goal.loop-file-init
loop-file-init c = (c.requires, λ p e. record { ts = p; left = subst (λ s. Left file_row c.args.row.now s p) (sym c.into_iter-file-iterator.ensures.into_iter_gives) (c.files_of-file-items.ensures p e); holds = refl })

pub loop-file-preserved : goal.loop-file-preserved
loop-file-preserved c =
    let i0 = c.loop-file.invariant.0 in
    let kept = c.check_items.auto.pile in (
      omega arith,
      λ p e.
          rest_next (Left file_row) (c.loop-file.invariant.1 p e) c.in-Some.ensures.steps
          (λ f fs k r q. q ∙ ap (λ (b : Bool). b && files_resolved p fs) (sym (c.if-not-check_items.ensures p f e k))),
    )

pub returns-then-not-check_items : goal.returns-then-not-check_items
returns-then-not-check_items c = λ p e.
    rest_by (Left file_row) (c.loop-file.invariant.1 p e) c.in-Some.ensures.steps
    (λ f fs k r q. sym (q ∙ ap (λ (b : Bool). b && files_resolved p fs) (sym (c.if-not-check_items.ensures p f e k))))

pub returns : goal.returns
returns c = λ p e. sym (rest_none (Left file_row) (c.loop-file.invariant.1 p e) c.in-None.ensures.steps)
