-- `find_home`: the file's items, then the use in them.
use Rattle.std.proofs.Common.{List, sym, ap, subst}
use Rattle.language.specs.Syntax.{Item}
use Rattle.language.specs.Meaning.{used_in, items_of}
use Rattle.names.specs.Finds.{FindsUse}
use Rattle.names.proofs.file.File.find_home.Goals as goal

pub returns-in_err-items : goal.returns-in_err-items
returns-in_err-items c = λ p f hf.
    let x = c.args.name.now in
    subst (FindsUse c.args.self.row.now (used_in (items_of p f) x)) (sym c.from_residual.ensures) (ap (λ (is : List Item). used_in is x) (c.in_err-items.ensures p f hf.row hf.name))

pub returns : goal.returns
returns c = λ p f hf. c.find_use.ensures (items_of p f) (c.in_ok-items.ensures p f hf.row hf.name)
