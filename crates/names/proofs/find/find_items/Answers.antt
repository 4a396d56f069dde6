-- `find_items`: file by file.
use Rattle.std.proofs.Common.{sym, refl, ◌∙◌, subst, arith}
use Rattle.rows.specs.Trees.{item_row}
use Rattle.limits.specs.Entries.{Left}
use Rattle.limits.proofs.EntryLaws.{onward_first, onward_none, onward_by, onward_next}
use Rattle.limits.proofs.Places.{file-name}
use Rattle.names.proofs.Listing.{other_file, this_file}
use Rattle.names.proofs.find.find_items.Goals as goal

pub loop-init : goal.loop-init
loop-init c = λ p f e hf. onward_first (c.files_of-files.ensures p e) c.place-other.ensures c.len-end.ensures refl

pub loop-preserved : goal.loop-preserved
loop-preserved c = λ p f e hf.
    onward_next (c.loop.invariant p f e hf) (omega arith) (λ g h. c.end-other.ensures c.args.row.now g.items (c.items_of-items.ensures.left g h) ∙ c.items_of-items.ensures.ends g h)
    (λ g gs h q. q ∙ other_file f g gs (sym (c.if-same_at.ensures g.name f (file-name g h) hf)))

pub returns-then-same_at : goal.returns-then-same_at
returns-then-same_at c = λ p f e hf.
    onward_by (c.loop.invariant p f e hf) (omega arith)
    (λ g gs h r l q. subst (Left item_row c.args.row.now c.items_of-items.result) (sym (q ∙ this_file f g gs (sym (c.if-same_at.ensures g.name f (file-name g h) hf)))) (c.items_of-items.ensures.left g h))

pub returns : goal.returns
returns c = λ p f e hf. onward_none (c.loop.invariant p f e hf) (omega arith)
