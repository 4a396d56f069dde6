-- Parameters and their kinds, against the model parser.
use Rattle.std.proofs.Common.{◌≡◌, ℕ, true, List, [], ◌∷◌, Result, sym, refl, ap, ◌∙◌, subst, arith, Bor}
use mathlib.Core.Option.{none}
use Rattle.language.specs.Syntax.{pick, Name, same, Param}
use Rattle.grammar.specs.Text.{pieces, gap, t_rp, t_comma}
use Rattle.grammar.specs.Parse.{Res, fail, got}
use Rattle.grammar.specs.ParseAll.{again, par_kind, par, pars_more, pars_step, pars_of}
use Rattle.grammar.proofs.Equations.{pars-is}
use Rattle.rows.specs.declared.row.Row.{Row}
use Rattle.rows.proofs.Writing.{wrote_none}
use Rattle.pieces.specs.declared.refused.Refused.{Refused}
use Rattle.pieces.specs.Seen.{ate, is_no_name, Ate, AteName}
use Rattle.bodies.proofs.Expressions.{bind-fail, bind-got, not_same, name-got, name-fail}
use Rattle.rows.specs.declared.kind.LocalKind.{LocalKind}
use Rattle.parser.specs.Lists.{DidList, Listed, Listable, param_row, kind_of, KindIs}

-- parameters
abbrev pub pars : List Name → Res (List Param)
pars = again pars_step

par-is : {t r q : List ℕ} {k : LocalKind} (x : Name) → AteName x t r → KindIs (par_kind (pieces gap r)) k r q → par (pieces gap t) ≡ got (record { name = x; kind = kind_of k }) (pieces gap q)
par-is {k = k} x a h = name-got x _ a ∙ bind-got _ (kind_of k) _ h.is

step_is : {t r q : List ℕ} {k : LocalKind} (x : Name) → AteName x t r → KindIs (par_kind (pieces gap r)) k r q → pars (pieces gap t) ≡ pars_more pars (record { name = x; kind = kind_of k }) (pieces gap q)
step_is {t} x a h = pars-is (pieces gap t) ∙ bind-got (pars_more pars) _ _ (par-is x a h)

more-none : (q : Param) (s : List Name) → ate t_rp s ≡ none → ate t_comma s ≡ none → pars_more pars q s ≡ fail
more-none q [] a b = refl
more-none q (w ∷ s) a b = let e = not_same w t_comma s (same w t_comma) refl b in let f = not_same w t_rp s (same w t_rp) refl a in rw (e, f)

pub param_listable : {t r q : List ℕ} {k : LocalKind} (x : Name) → AteName x t r → KindIs (par_kind (pieces gap r)) k r q → Listable 41 pars param_row (record { name = x; kind = kind_of k }) t q
param_listable {q = q} x a h = record {
  last = λ z b. step_is x a h ∙ ap (pars_more pars _) b.said;
  more = λ z b. step_is x a h ∙ ap (pars_more pars _) b.said;
  stop = λ e f. step_is x a h ∙ more-none _ (pieces gap q) e f;
  less = let i = a.less in let j = a.some in let u = h.less in omega arith;
  room = let i = a.less in let j = a.some in let u = h.less in omega arith;
}

pub pars-no-kind : {t r : List ℕ} (x : Name) → AteName x t r → par_kind (pieces gap r) ≡ fail → pars (pieces gap t) ≡ fail
pars-no-kind {t = t} x a e = pars-is (pieces gap t) ∙ bind-fail _ (name-got x _ a ∙ bind-fail _ e)

pub pars-no-name : (s : List Name) → is_no_name s ≡ true → pars s ≡ fail
pars-no-name s e = pars-is s ∙ bind-fail _ (name-fail s _ e)

of_some : (s : List Name) → ate t_rp s ≡ none → pars_of s ≡ pars s
of_some [] e = sym (pars-is [])
of_some (w ∷ s) e = ap (λ c. pick c (got [] s) (pars (w ∷ s))) (not_same w t_rp s (same w t_rp) refl e)

pub params_none : {t r : List ℕ} (o : Row) → Ate t_rp t r → DidList 0 (pars_of (pieces gap t)) param_row t r 0 o o
params_none o a = record { did = record { tree = []; is = ap pars_of a.said; wrote = wrote_none o; within = omega arith; on = omega arith }; num = refl; few = omega arith }

pub params_some : (t : List ℕ) (o p : Row) (res : Result (ℕ × Bor (List ℕ)) Refused) → ate t_rp (pieces gap t) ≡ none → Listed 0 (pars (pieces gap t)) param_row t o p res → Listed 0 (pars_of (pieces gap t)) param_row t o p res
params_some t o p res e a = subst (λ (m : Res (List Param)). Listed 0 m param_row t o p res) (sym (of_some (pieces gap t) e)) a
