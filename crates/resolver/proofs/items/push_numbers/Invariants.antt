-- `push_numbers`: the loop's invariant, by what is left.
use Rattle.std.proofs.Common.{List}
use Rattle.language.specs.Syntax.{Name, Prog}
use Rattle.rows.specs.Has.{named}
use Rattle.steps.specs.Fits.{Each}
use Rattle.limits.specs.Entries.{Left}
use Rattle.limits.proofs.EntryLaws.{Rest}
use Rattle.names.specs.File.{IsFile}
use Rattle.resolver.specs.Sound.{Sound, Known, Lent}
use Rattle.resolver.proofs.ItemLoops.{number_to}
use Rattle.resolver.proofs.Walking.{Pushing}
use Rattle.resolver.proofs.items.push_numbers.Given as goal

abbrev pub invariant-loop-name : goal.invariant-loop-name
invariant-loop-name l =
    Lent l.initial.out l.out × ((p : Prog) (f : Name) (xs : List Name) → Sound l.file.row.now p → IsFile p f l.file → Left named l.file.row.now l.fn.names xs → Each (Known p f) xs → Rest (Left named) l.file.row.now (Pushing (number_to p f) (Known p f) xs l.initial.out l.out) l.name-iterator)
