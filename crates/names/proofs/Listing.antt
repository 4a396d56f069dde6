-- Files by their names, and the uses of names.
use Rattle.std.proofs.Common.{◌≡◌, Bool, true, false, List, ◌∷◌, refl, ap, ◌∙◌}
use mathlib.Core.Option.{some}
use Rattle.language.specs.Syntax.{pick, Name, same, Item, i_word, i_arr, i_data, i_table, i_fn, i_use, File, Prog}
use Rattle.language.specs.Meaning.{used_in, items_of}
use Rattle.rows.specs.Kinds.{kind_of_item}
use Rattle.rows.specs.declared.kind.ItemKind.TheVariants.{Use}
use Rattle.rows.specs.Trees.{name_of}
use Rattle.names.specs.Finds.{uses}

pub used_step : (i : Item) (is : List Item) (x : Name) → used_in (i ∷ is) x ≡ pick (uses i x) (some (name_of i)) (used_in is x)
used_step (i_word y) is x = refl
used_step (i_arr r) is x = refl
used_step (i_data d y ns) is x = refl
used_step (i_table y fs) is x = refl
used_step (i_fn g) is x = refl
used_step (i_use y ys) is x = refl

-- an item of any other kind uses nothing
pub uses-none : (i : Item) (x : Name) → (kind_of_item i ≡ Use → ⊥) → false ≡ uses i x
uses-none (i_word y) x n = refl
uses-none (i_arr r) x n = refl
uses-none (i_data d y ns) x n = refl
uses-none (i_table y fs) x n = refl
uses-none (i_fn g) x n = refl
uses-none (i_use y ys) x n = absurd (n refl)

-- files and items that are passed over
pub other_file : (x : Name) (f : File) (fs : Prog) → same f.name x ≡ false → items_of (f ∷ fs) x ≡ items_of fs x
other_file x f fs e = ap (λ (t : Bool). pick t f.items (items_of fs x)) e

pub this_file : (x : Name) (f : File) (fs : Prog) → same f.name x ≡ true → items_of (f ∷ fs) x ≡ f.items
this_file x f fs e = ap (λ (t : Bool). pick t f.items (items_of fs x)) e

pub other_item : (x : Name) (i : Item) (is : List Item) → uses i x ≡ false → used_in (i ∷ is) x ≡ used_in is x
other_item x i is e = used_step i is x ∙ ap (λ (t : Bool). pick t (some (name_of i)) (used_in is x)) e

pub this_item : (x : Name) (i : Item) (is : List Item) → uses i x ≡ true → used_in (i ∷ is) x ≡ some (name_of i)
this_item x i is e = used_step i is x ∙ ap (λ (t : Bool). pick t (some (name_of i)) (used_in is x)) e
