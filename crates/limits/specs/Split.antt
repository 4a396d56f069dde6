-- The checks in two parts: what can be told without looking names up, and what needs it. Files are a program exactly if both hold.
use Rattle.std.specs.Prelude.{◌≡◌, Bool, true, false, not, ◌&&◌, List, [], ◌∷◌, nat_le}
use Rattle.language.specs.Syntax.{opt, Name, same, Item, i_word, i_arr, i_data, i_table, i_fn, i_use, Prog}
use Rattle.language.specs.Meaning.{all_tops}
use Rattle.language.specs.Checks.{ok_b, once, head_fn, alike, all_there, names_in, file_names, has_main, totals, ok}
use Rattle.limits.specs.Within.{item_within}

abbrev pub items_within : List Item → Bool
items_within [] = true
items_within (i ∷ is) = item_within i && items_within is

-- in each file, all names at the top differ, and all that stands there is within its limits
abbrev pub files_within : Prog → Bool
files_within [] = true
files_within (f ∷ fs) = (items_within f.items && once (names_in f.items)) && files_within fs

-- what needs no look-up
abbrev pub within : Prog → Bool
within p = once (file_names p) && (nat_le (totals p) 262144 && files_within p)

-- what needs look-ups: what stands at the top of file f, the same of all that stands there, and of all files
abbrev pub item_resolved : Prog → Name → Item → Bool
item_resolved p f (i_word x) = true
item_resolved p f (i_arr a) = true
item_resolved p f (i_data w x ns) = true
item_resolved p f (i_table x fs) = opt (head_fn p f fs) false (λ qs. alike p f qs fs)
item_resolved p f (i_fn g) = ok_b p f g false g.body
item_resolved p f (i_use y xs) = not (same y f) && all_there (all_tops p 0 0) y xs

abbrev pub items_resolved : Prog → Name → List Item → Bool
items_resolved p f [] = true
items_resolved p f (i ∷ is) = item_resolved p f i && items_resolved p f is

abbrev pub files_resolved : Prog → Prog → Bool
files_resolved p [] = true
files_resolved p (f ∷ fs) = items_resolved p f.name f.items && files_resolved p fs

abbrev pub resolved : Prog → Bool
resolved p = has_main p && files_resolved p p

abbrev pub Splits : Type 0
Splits = (p : Prog) → ok p ≡ (within p && resolved p)
