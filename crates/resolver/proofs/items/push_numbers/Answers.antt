-- `push_numbers`: name by name.
use Rattle.std.proofs.Common.{ℕ, [], ◌∷◌, sym, ap, ◌∙◌, subst, arith}
use Rattle.language.specs.Meaning.{as_fn}
use Rattle.rows.specs.Has.{named}
use Rattle.steps.specs.Generate.{fn_no}
use Rattle.limits.specs.Entries.{Left}
use Rattle.limits.proofs.EntryLaws.{rest_next, rest_none}
use Rattle.resolver.specs.Sound.{Known}
use Rattle.resolver.proofs.Bounds.{number_fits}
use Rattle.resolver.proofs.ItemLoops.{numbers_to}
use Rattle.resolver.proofs.Walking.{lent_none, lent-pushed, pushed_as, pushing_none, pushing_more, pushing_all}
use Rattle.resolver.proofs.items.push_numbers.Goals as goal

pub loop-name-init : goal.loop-name-init
loop-name-init c = (
  lent_none c.args.out.now,
  λ p f xs so hf h k. record { ts = xs; left = subst (λ s. Left named c.args.file.row.now s xs) (sym c.into_iter-name-iterator.ensures.into_iter_gives) h; holds = pushing_none xs c.args.out.now k },
)

pub loop-name-preserved : goal.loop-name-preserved
loop-name-preserved c =
    let i = c.loop-name.invariant in (
      lent-pushed i.0 c.push.ensures,
      λ p f xs so hf h k.
          rest_next (Left named) (i.1 p f xs so hf h k) c.in-Some.ensures.steps
          (λ x ys hx r v. pushing_more x ys v
          (λ kx. let n = c.name_at.ensures x hx in
          let e = c.function_number.ensures p f so hf (subst (Known p f) (sym n) kx) ∙ ap (fn_no p f) n in
          pushed_as (ap (λ (m : ℕ). m ∷ []) (c.word.ensures (omega (arith, e, number_fits as_fn f x so)) ∙ e)) c.push.ensures)),
    )

pub returns : goal.returns
returns c =
    let i = c.loop-name.invariant in
    record { lent = i.0; pushed = λ p f xs so hf h k. pushed_as (numbers_to p f xs) (pushing_all (rest_none (Left named) (i.1 p f xs so hf h k) c.in-None.ensures.steps)) }
