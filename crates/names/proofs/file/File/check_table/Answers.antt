use Rattle.std.proofs.Common.{false, List, sym, ap, ◌∙◌}
use mathlib.Core.Option.{Option}
use Rattle.language.specs.Syntax.{opt, Param}
use Rattle.language.specs.Checks.{alike}
use Rattle.names.proofs.file.File.check_table.Goals as goal

pub returns-in-Some : goal.returns-in-Some
returns-in-Some c = λ p f xs hf h.
    let v = c.in-Some.ensures p f xs hf h in
    c.are_alike.ensures p f v.params xs hf v.there h ∙ sym (ap (λ (o : Option (List Param)). opt o false (λ qs. alike p f qs xs)) v.is)

pub returns-in-None : goal.returns-in-None
returns-in-None c = λ p f xs hf h. sym (ap (λ (o : Option (List Param)). opt o false (λ qs. alike p f qs xs)) (c.in-None.ensures p f xs hf h))
