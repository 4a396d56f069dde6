-- `push_arrays`: the loop's invariant, by what is left.
use Rattle.std.proofs.Common.{◌≡◌, true, List}
use Rattle.language.specs.Syntax.{Arr}
use Rattle.language.specs.Checks.{sizes}
use Rattle.rows.specs.Trees.{map_list, of_array, local_row}
use Rattle.limits.specs.Entries.{Left}
use Rattle.limits.proofs.EntryLaws.{Rest}
use Rattle.resolver.specs.Sound.{Lent}
use Rattle.resolver.proofs.Locals.{ArraysLeft, array_to, Sized}
use Rattle.resolver.proofs.Walking.{Pushing}
use Rattle.resolver.proofs.function.push_arrays.Given as goal

abbrev pub invariant-loop-array : goal.invariant-loop-array
invariant-loop-array l = Lent l.initial.out l.out × ((bs : List Arr) → Left local_row l.row l.fn.arrays (map_list of_array bs) → sizes 4096 bs ≡ true → Rest ArraysLeft l.row (Pushing array_to Sized bs l.initial.out l.out) l.array-iterator)
