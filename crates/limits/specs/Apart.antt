-- Names at the top of a file, item by item, and names that differ from those behind them.
use Rattle.std.specs.Prelude.{Bool, true, not, ◌&&◌, List, [], ◌∷◌, ◌++◌}
use Rattle.language.specs.Syntax.{Name, listed, Item, i_word, i_arr, i_data, i_table, i_fn, i_use}

-- the names that an item gives its file: its own, or those that it uses
abbrev pub item_names : Item → List Name
item_names (i_word x) = x ∷ []
item_names (i_arr a) = a.name ∷ []
item_names (i_data w x ns) = x ∷ []
item_names (i_table x fs) = x ∷ []
item_names (i_fn g) = g.name ∷ []
item_names (i_use y xs) = xs

-- each of the first names differs from those behind it, and from the second names
abbrev pub apart : List Name → List Name → Bool
apart [] ys = true
apart (x ∷ xs) ys = not (listed x (xs ++ ys)) && apart xs ys
