-- Names that differ, item by item.
use Rattle.std.proofs.Common.{◌≡◌, Bool, not, ◌&&◌, ◌||◌, List, [], ◌∷◌, ◌++◌, sym, refl, ap, ◌∙◌}
use Rattle.language.specs.Syntax.{Name, same, listed, Item, i_word, i_arr, i_data, i_table, i_fn, i_use}
use Rattle.language.specs.Checks.{once, names_in}
use Rattle.rows.specs.declared.kind.ItemKind.TheVariants.{Use}
use Rattle.rows.specs.Kinds.{kind_of_item}
use Rattle.rows.specs.Trees.{name_of}
use Rattle.limits.specs.Apart.{item_names, apart}
use Rattle.limits.proofs.Flags.{and_assoc, and-true, or_assoc, or-false}

names_more : (i : Item) (is : List Item) → names_in (i ∷ is) ≡ item_names i ++ names_in is
names_more (i_word x) is = refl
names_more (i_arr a) is = refl
names_more (i_data w x ns) is = refl
names_more (i_table x fs) is = refl
names_more (i_fn g) is = refl
names_more (i_use y xs) is = refl

pub listed-append : (x : Name) (xs ys : List Name) → listed x (xs ++ ys) ≡ (listed x xs || listed x ys)
listed-append x [] ys = refl
listed-append x (z ∷ xs) ys = ap (λ (t : Bool). same z x || t) (listed-append x xs ys) ∙ sym (or_assoc (same z x) (listed x xs) (listed x ys))

once-append : (xs ys : List Name) → once (xs ++ ys) ≡ (apart xs ys && once ys)
once-append [] ys = refl
once-append (x ∷ xs) ys = ap (λ (t : Bool). not (listed x (xs ++ ys)) && t) (once-append xs ys) ∙ sym (and_assoc (not (listed x (xs ++ ys))) (apart xs ys) (once ys))

pub listed_more : (x : Name) (i : Item) (is : List Item) → listed x (names_in (i ∷ is)) ≡ (listed x (item_names i) || listed x (names_in is))
listed_more x i is = ap (listed x) (names_more i is) ∙ listed-append x (item_names i) (names_in is)

pub once_more : (i : Item) (is : List Item) → once (names_in (i ∷ is)) ≡ (apart (item_names i) (names_in is) && once (names_in is))
once_more i is = ap once (names_more i is) ∙ once-append (item_names i) (names_in is)

-- an item that uses nothing gives one name, its own
own_name : (i : Item) → (kind_of_item i ≡ Use → ⊥) → item_names i ≡ name_of i ∷ []
own_name (i_word x) n = refl
own_name (i_arr b) n = refl
own_name (i_data d x ns) n = refl
own_name (i_table x fs) n = refl
own_name (i_fn g) n = refl
own_name (i_use y xs) n = absurd (n refl)

pub listed-own : (i : Item) → (kind_of_item i ≡ Use → ⊥) → (x : Name) → same (name_of i) x ≡ listed x (item_names i)
listed-own i n x = sym (ap (listed x) (own_name i n) ∙ or-false (same (name_of i) x))

pub apart-own : (i : Item) → (kind_of_item i ≡ Use → ⊥) → (ys : List Name) → not (listed (name_of i) ys) ≡ apart (item_names i) ys
apart-own i n ys = sym (ap (λ (l : List Name). apart l ys) (own_name i n) ∙ and-true (not (listed (name_of i) ys)))
