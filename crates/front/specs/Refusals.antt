-- Refusals of the reading half, as those of a build.
use Rattle.lower.specs.declared.Unbuilt.{Unbuilt}
use Rattle.lower.specs.declared.Unbuilt.TheVariants as build
use Rattle.front.specs.declared.Unreadable.{Unreadable}
use Rattle.front.specs.declared.Unreadable.TheVariants.{Few, NoProgram}

abbrev pub unbuilt_of : Unreadable → Unbuilt
unbuilt_of Few = build.Few
unbuilt_of NoProgram = build.NoProgram
