-- `find_top`: file by file, item by item.
use Rattle.std.proofs.Common.{Bool, not, ◌&&◌, eqb, sym, ap, ◌∙◌, ap₂, subst, arith, length-append}
use Rattle.language.specs.Syntax.{same}
use Rattle.language.specs.Meaning.{all_tops}
use Rattle.rows.specs.Trees.{list_row, item_no, name_of, item_row}
use Rattle.rows.proofs.Having.{has_to}
use Rattle.limits.proofs.EntryLaws.{onward_first, onward_none, onward_by, onward_next}
use Rattle.limits.proofs.Places.{file-name}
use Rattle.names.specs.Finds.{TopAt}
use Rattle.names.proofs.Searching.{Files, files_first, files_last, into_file, behind_file, past_item, this_top, tested}
use Rattle.names.proofs.file.File.find_top.Goals.{else-here-via-then-here+else-declares, else-here-via-else-here}
use Rattle.names.proofs.file.File.find_top.Goals as goal

pub loop-init : goal.loop-init
loop-init c = λ p F hf. onward_first (c.files_of-files.ensures p hf.row) c.place-file.ensures c.len-end.ensures (subst (λ s. Files c.args.self.row.now p F c.args.name.now s p) (sym c.none-passed.ensures) (files_first hf.row))

pub loop-2-init : goal.loop-2-init
loop-2-init c = λ p F hf.
    onward_by (c.loop.invariant p F hf) c.loop-test.true
    (λ f fs h r l v. (
      f,
      fs,
      h,
      r,
      l,
      onward_first (c.items_of-items.ensures.left f h) c.place-item.ensures c.len-end-in-loop.ensures (omega (arith, c.place-item.ensures, c.items_of-items.ensures.ends f h), into_file f fs v),
    ))

pub loop-preserved : goal.loop-preserved
loop-preserved c = λ p F hf.
    let v = c.loop-2.invariant p F hf in
    let q = onward_none v.5 (omega arith) in
    record { ts = v.1; here = has_to (omega (arith, q.0)) v.3; long = v.4; holds = behind_file q.1 }

pub returns-then-declares : goal.returns-then-declares
returns-then-declares c = λ p F hf.
    let v = c.loop-2.invariant p F hf in
    let hn = file-name v.0 v.2 in
    let e = c.is_named-here.ensures v.0.name hn ∙ ap (same v.0.name) (c.name_at-sought.ensures F hf.name) in
    onward_by v.5 c.loop-2-test.true
    (λ i is h r l q. subst (TopAt c.args.self.row.now (all_tops p 0 0) F c.args.name.now) (sym c.spot.ensures) (this_top (omega arith) i is v.1 q.1 hn h (tested (same v.0.name F) (same (name_of i) c.args.name.now) (eqb (item_no i) 5) (sym (ap₂ (λ (a b : Bool). a && b) c.if-here.true c.if-declares.true) ∙ ap₂ (λ (a b : Bool). a && b) e (c.declares.ensures i h (c.item_kind_at-kind.ensures i h))))))

pub loop-2-preserved : goal.loop-2-preserved
loop-2-preserved c = λ p F hf.
    let v = c.loop-2.invariant p F hf in
    let e = c.is_named-here.ensures v.0.name (file-name v.0 v.2) ∙ ap (same v.0.name) (c.name_at-sought.ensures F hf.name) in (
      v.0,
      v.1,
      v.2,
      v.3,
      v.4,
      onward_next v.5 c.loop-2-test.true (λ i h. omega (arith, c.past_item-item.ensures i h))
          (λ i is h q. (
            omega (arith, q.0, c.past_item-item.ensures i h, length-append (item_row i) (list_row item_row is)),
            past_item (omega arith) i is v.1 q.1 (c.pass.ensures i (c.item_kind_at-kind.ensures i h)) (tested (same v.0.name F) (same (name_of i) c.args.name.now) (eqb (item_no i) 5) (
                elim c.else-here.branch [
                  | else-here-via-then-here+else-declares w ↦ sym (ap₂ (λ (a b : Bool). a && b) w.if-here.true w.if-declares.false) ∙ ap₂ (λ (a b : Bool). a && b) e (w.declares.ensures i h (c.item_kind_at-kind.ensures i h))
                  | else-here-via-else-here w ↦ ap (λ (a : Bool). a && (not (eqb (item_no i) 5) && same (name_of i) c.args.name.now)) (sym w.if-here.false ∙ e)
                ])),
          )),
    )

pub returns : goal.returns
returns c = λ p F hf. files_last (onward_none (c.loop.invariant p F hf) (omega arith))
