-- What items become, by their sort (3 a table, 4 a function), and how many there are of a sort.
use Rattle.std.specs.Prelude.{ℕ, ◌+◌, List, [], ◌∷◌, ◌==◌}
use Rattle.language.specs.Syntax.{pick, Name, Item, i_word, i_arr, i_data, i_table, i_fn, i_use, File, Prog}
use Rattle.language.specs.Words.{bit}
use Rattle.rows.specs.Trees.{list_row, item_no}
use Rattle.steps.specs.Generate.{fn_nos}
use Rattle.generator.specs.ResolvedRows.{routine_words, table_words, resolve_fn}

abbrev pub made_of : Prog → Name → Item → List ℕ
made_of p f (i_word x) = []
made_of p f (i_arr a) = []
made_of p f (i_data w x ns) = []
made_of p f (i_table x fs) = table_words (fn_nos p f fs)
made_of p f (i_fn g) = routine_words (resolve_fn p f g)
made_of p f (i_use y xs) = []

-- an item, if it is of sort n; those of a file
abbrev pub item_words : Prog → Name → ℕ → Item → List ℕ
item_words p f n i = pick (item_no i == n) (made_of p f i) []

abbrev pub file_words : Prog → ℕ → File → List ℕ
file_words p n f = list_row (item_words p f.name n) f.items

abbrev pub sum_of : {A : Type 0} → (A → ℕ) → List A → ℕ
sum_of m [] = 0
sum_of m (x ∷ xs) = m x + sum_of m xs

-- how many items are of sort n, in a file
abbrev pub is_sort : ℕ → Item → ℕ
is_sort n i = bit (item_no i == n)

abbrev pub sort_in : ℕ → File → ℕ
sort_in n f = sum_of (is_sort n) f.items
