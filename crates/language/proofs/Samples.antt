-- The three programs of Samples, run by the definitions.
use mathlib.Core.Path.{refl}
use Rattle.language.specs.Meaning.{binary, single, div0}
use Rattle.language.specs.Samples.{factorial, sums, tables, Worked}

pub worked : Worked
unfolding factorial sums tables binary single div0
worked = record {
  factorial_ok = (refl, refl);
  factorial_ends = refl;
  sums_ok = (refl, refl);
  sums_ends = refl;
  sums_short = refl;
  tables_ok = (refl, refl);
  tables_ends = refl;
}
