-- `is_alike`: the parameters of what is named.
use Rattle.names.proofs.Referring.{like-some, like-none}
use Rattle.names.proofs.file.File.is_alike.Goals as goal

pub returns-in-Some : goal.returns-in-Some
returns-in-Some c = λ p f qs hf l. like-some p f qs c.args.name.now l (c.in-Some.ensures p f hf) c.same_kinds.ensures

pub returns-in-None : goal.returns-in-None
returns-in-None c = λ p f qs hf l. like-none p f qs c.args.name.now (c.in-None.ensures p f hf)
