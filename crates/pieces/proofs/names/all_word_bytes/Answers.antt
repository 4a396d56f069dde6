-- Proof of `all_word_bytes`.
use Rattle.std.proofs.Common.{◌≡◌, ◌&&◌, ◌∙◌, refl, ap, List, ℕ, [], ◌∷◌, rules, tests}
use Rattle.std.specs.List.{list_all}
use Rattle.std.proofs.lemmas.Iterator.{YieldsList-from_slice}
use Rattle.std.proofs.lemmas.Iterator.Search.{all_from_yields_List}
use Rattle.grammar.specs.Text.{word_byte, word_bytes}
use Rattle.pieces.proofs.names.all_word_bytes.Goals as goal

all_is : (s : List ℕ) → list_all word_byte s ≡ word_bytes s
all_is [] = refl
all_is (c ∷ s) = ap (λ b. word_byte c && b) (all_is s)

pub returns : goal.returns
returns c = all_from_yields_List word_byte _ _ c.all.result c.all.ensures.ran (YieldsList-from_slice c.args.w.now cc) (λ x b q k. search (rules, tests)) ∙ all_is c.args.w.now
