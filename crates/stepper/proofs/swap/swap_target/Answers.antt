use Rattle.std.proofs.Common.{inl, inr, arith}
use Rattle.stepper.proofs.Swapping.{swapped_past, swapped_plain, swapped_jump}
use Rattle.stepper.proofs.swap.swap_target.Goals as goal
use Rattle.stepper.proofs.swap.swap_target.Goals.{else-tag-ne-JUMP-via-then-tag-ne-JUMP+else-tag-ne-JUMP_ZERO, else-tag-ne-JUMP-via-else-tag-ne-JUMP}

pub returns-then-out-at : goal.returns-then-out-at
returns-then-out-at c = swapped_past c.args.out.now c.args.first c.args.jump c.args.target c.saturating_add-at.result c.saturating_add-at.ensures (omega arith)

pub returns-then-tag-ne-JUMP_ZERO : goal.returns-then-tag-ne-JUMP_ZERO
returns-then-tag-ne-JUMP_ZERO c = swapped_plain c.args.out.now c.args.first c.args.jump c.args.target c.saturating_add-at.result c.saturating_add-at.ensures (omega arith) (omega arith) c.if-tag-ne-JUMP.true c.if-tag-ne-JUMP_ZERO.true

pub returns : goal.returns
returns c = swapped_jump c.args.out.now c.set.new.self c.args.first c.args.jump c.args.target c.saturating_add-at.result c.saturating_add-at.ensures (omega arith) (omega arith) (elim c.else-tag-ne-JUMP.branch [ else-tag-ne-JUMP-via-then-tag-ne-JUMP+else-tag-ne-JUMP_ZERO w ↦ inr w.if-tag-ne-JUMP_ZERO.false | else-tag-ne-JUMP-via-else-tag-ne-JUMP w ↦ inl w.if-tag-ne-JUMP.false ]) c.set.ensures
