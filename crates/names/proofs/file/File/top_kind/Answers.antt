-- `top_kind`: the kind of the item that is meant.
use Rattle.std.proofs.Common.{sym, ap, ◌∙◌}
use mathlib.Core.Option.{Option}
use Rattle.language.specs.Meaning.{on_some, Top}
use Rattle.language.specs.Checks.{kind_is}
use Rattle.names.specs.Kinds.{kind_found}
use Rattle.names.proofs.NameKinds.{kind_here}
use Rattle.names.proofs.file.File.top_kind.Goals as goal

pub returns-in_err-spot : goal.returns-in_err-spot
returns-in_err-spot c = λ p f hf. c.from_residual.ensures ∙ sym (ap (λ (o : Option Top). kind_found (on_some o (λ t. kind_is t.is))) (c.in_err-spot.ensures p f hf))

pub returns : goal.returns
returns c = λ p f hf. kind_here (c.in_ok-spot.ensures p f hf).top c.item_kind.ensures
