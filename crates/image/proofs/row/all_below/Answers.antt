-- `all_below`: the library's test of each number is that of the definition.
use Rattle.std.proofs.Common.{ℕ, Bool, ◌&&◌, ltb, refl, ◌∙◌, rules, tests}
use Rattle.std.specs.List.{list_all}
use Rattle.std.proofs.lemmas.Iterator.{YieldsList-from_slice}
use Rattle.std.proofs.lemmas.Iterator.Search.{all_from_yields_List}
use Rattle.std.proofs.lemmas.List.Recursion.{same_from_clauses}
use Rattle.image.specs.Image.{within}
use Rattle.image.proofs.row.all_below.Goals as goal

pub returns : goal.returns
returns c =
    let below : ℕ → Bool = λ n. ltb n c.args.limit in
    all_from_yields_List below _ _ c.all.result c.all.ensures.ran (YieldsList-from_slice c.args.numbers.now cc) (λ x b q k. search (rules, tests))
    ∙ same_from_clauses (list_all below) (within c.args.limit) (λ n b. below n && b) refl (λ n ns. refl) (λ n ns. refl) c.args.numbers.now
