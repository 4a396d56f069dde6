-- `files_fit`: the limits and names of files, file by file.
use Rattle.std.proofs.Common.{◌&&◌, refl, rules}
use Rattle.language.specs.Syntax.{File}
use Rattle.language.specs.Checks.{once, names_in}
use Rattle.rows.specs.Trees.{file_row}
use Rattle.limits.specs.Entries.{Left}
use Rattle.limits.specs.Split.{items_within, files_within}
use Rattle.limits.proofs.EntryLaws.{all_is}
use Rattle.limits.proofs.whole.files_fit.Goals as goal

pub returns : goal.returns
returns c = λ p e. all_is (Left file_row) (λ (f : File). items_within f.items && once (names_in f.items)) (λ f j b f' k q. search rules) files_within refl (λ f fs. refl) (c.files_of.ensures p e) c.all.ensures.ran
