-- Proof of `is_reserved`.
use Rattle.std.proofs.Common.{◌≡◌, ◌||◌, ◌∙◌, refl, ap, ap₂, sym, List, ℕ, [], ◌∷◌, Bor, nat_eq, rules, tests}
use Rattle.std.specs.List.{list_any}
use Rattle.std.specs.Cmp.Lexicographic.{pointwise}
use Rattle.std.proofs.lemmas.Iterator.{YieldsList-from_slice}
use Rattle.std.proofs.lemmas.Iterator.Search.{any_from_yields_List}
use Rattle.language.specs.Syntax.{Name, listed}
use Rattle.pieces.proofs.Naming.{same-pointwise}
use Rattle.pieces.proofs.names.is_reserved.Goals as goal

abbrev words_of : List (Bor (List ℕ)) → List Name
words_of [] = []
words_of (k ∷ ks) = k.now ∷ words_of ks

listed_is : (w : Name) (ks : List (Bor (List ℕ))) → list_any (λ k. pointwise nat_eq k.now w) ks ≡ listed w (words_of ks)
listed_is w [] = refl
listed_is w (k ∷ ks) = ap₂ (λ a b. a || b) (sym (same-pointwise k.now w)) (listed_is w ks)

pub returns : goal.returns
returns c =
    let w = c.args.w.now in
    let ks : List (Bor (List ℕ)) = c.iter.result.rest.now in
    any_from_yields_List {B = Bor (List ℕ)} (λ k. pointwise nat_eq k.now w) _ _ c.any.result c.any.ensures.ran (YieldsList-from_slice ks refl) (λ x b q k. search (rules, tests)) ∙ listed_is w ks ∙ ap (λ (l : List (Bor (List ℕ))). listed w (words_of l)) c.iter.ensures.rest
