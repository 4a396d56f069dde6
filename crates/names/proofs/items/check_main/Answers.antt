-- `check_main`: main of the first file.
use Rattle.language.specs.Meaning.{first_file}
use Rattle.names.proofs.Referring.{main-none, main_some, no_files, first-file-at}
use Rattle.names.proofs.items.check_main.Goals as goal

pub returns-then-at-eq0 : goal.returns-then-at-eq0
returns-then-at-eq0 c = λ p e. no_files p e c.at.ensures.is c.if-at-eq0.true

pub returns-in-Some : goal.returns-in-Some
returns-in-Some c = λ p e. main_some p c.params_at.result (c.in-Some.ensures p (first_file p) (record { row = e; name = first-file-at p e c.at.ensures.is c.if-at-eq0.false })).top c.params_at.ensures c.is_plain.ensures

pub returns-in-None : goal.returns-in-None
returns-in-None c = λ p e. main-none p (c.in-None.ensures p (first_file p) (record { row = e; name = first-file-at p e c.at.ensures.is c.if-at-eq0.false }))
