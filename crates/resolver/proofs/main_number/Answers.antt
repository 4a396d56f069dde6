use Rattle.language.specs.Meaning.{first_file}
use Rattle.resolver.proofs.Programs.{main_there, main_number_is, main_not_none}
use Rattle.resolver.proofs.main_number.Goals as goal

pub returns-in-Some : goal.returns-in-Some
returns-in-Some c = λ p so.
    let v = c.in-Some.ensures p (first_file p) (record { row = so.is; name = main_there so }) in
    main_number_is so v.fns c.saturating_add.ensures

pub returns-in-None : goal.returns-in-None
returns-in-None c = λ p so. absurd (main_not_none so (c.in-None.ensures p (first_file p) (record { row = so.is; name = main_there so })))
