-- The sample texts, followed by the definitions.
use mathlib.Core.Path.{refl}
use Rattle.language.specs.Samples.{factorial, sums, tables}
use Rattle.grammar.specs.Parse.{look, up_to, reader}
use Rattle.grammar.specs.ParseAll.{up_to_f, again, lead, head_of, parse}
use Rattle.grammar.specs.Reading.{reading}
use Rattle.grammar.specs.Samples.{Cut, WorkedTexts}

pub cut : Cut
cut = record { bytes = refl; statements = refl; signs = refl; notes = refl; quotes = refl; unended = refl }

pub worked_texts_hold : WorkedTexts
unfolding reading look up_to reader up_to_f again lead head_of parse factorial sums tables
worked_texts_hold = record { factorial_read = refl; sums_read = refl; tables_read = refl }
