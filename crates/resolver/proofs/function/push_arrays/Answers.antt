-- `push_arrays`: array by array.
use Rattle.std.proofs.Common.{sym, ◌∙◌, subst, arith}
use Rattle.rows.specs.Trees.{map_list, of_array, local_row}
use Rattle.limits.specs.Entries.{Left}
use Rattle.limits.proofs.EntryLaws.{rest_next, rest_none}
use Rattle.resolver.proofs.Locals.{ArraysLeft, arrays_pass, arrays_none, array_size, arrays_to, all-sized}
use Rattle.resolver.proofs.Walking.{lent_none, lent-pushed, pushed_as, pushed-two, pushing_none, pushing_more, pushing_all}
use Rattle.resolver.proofs.function.push_arrays.Goals as goal

pub loop-array-init : goal.loop-array-init
loop-array-init c = (
  lent_none c.args.out.now,
  λ bs h e. record { ts = bs; left = subst (λ s. Left local_row c.args.row.now s (map_list of_array bs)) (sym c.into_iter-array-iterator.ensures.into_iter_gives) h; holds = pushing_none bs c.args.out.now (all-sized bs e) },
)

pub loop-array-preserved : goal.loop-array-preserved
loop-array-preserved c =
    let i = c.loop-array.invariant in (
      lent-pushed i.0 c.push_all.ensures,
      λ bs h e.
          rest_next ArraysLeft (i.1 bs h e) (arrays_pass c.in-Some.ensures.steps)
          (λ b us hb r v. pushing_more b us v (λ sb. pushed-two (c.array_width.ensures b hb) (c.word.ensures c.at-size.ensures.small ∙ array_size b hb (omega arith) c.saturating_add.ensures c.at-size.ensures.is sb) c.push_all.ensures)),
    )

pub returns : goal.returns
returns c =
    let i = c.loop-array.invariant in
    record { lent = i.0; pushed = λ bs h e. pushed_as (arrays_to bs) (pushing_all (rest_none ArraysLeft (i.1 bs h e) (arrays_none c.next.new.self c.in-None.ensures.steps))) }
