-- `params_first`: the first name, if there is one.
use Rattle.std.proofs.Common.{List, sym, ap, subst}
use mathlib.Core.Option.{some}
use Rattle.language.specs.Syntax.{Name}
use Rattle.language.specs.Meaning.{on_some}
use Rattle.language.specs.Checks.{fn_named, head_fn}
use Rattle.names.specs.Kinds.{FindsParams}
use Rattle.names.proofs.file.File.params_first.Goals as goal

pub returns-in_err-first : goal.returns-in_err-first
returns-in_err-first c = λ p f fs hf h.
    let n = c.in_err-first.ensures.steps c.args.self.row.now fs (c.counted-names.ensures.left fs h) in
    subst (FindsParams c.args.self.row.now (head_fn p f fs)) (sym c.from_residual.ensures) (ap (head_fn p f) n)

pub returns : goal.returns
returns c = λ p f fs hf h.
    let v = c.in_ok-first.ensures.steps c.args.self.row.now fs (c.counted-names.ensures.left fs h) in
    let q = c.params_named.ensures p f hf in
    subst (λ (xs : List Name). FindsParams c.args.self.row.now (head_fn p f xs) c.params_named.result) (sym v.2)
    (subst (λ x. FindsParams c.args.self.row.now (on_some (fn_named p f x) (λ h. some h.params)) c.params_named.result) (c.name_at.ensures v.0 v.3) q)
