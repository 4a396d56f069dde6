-- How many elements one item adds to the arrays at the top.
use Rattle.std.specs.Prelude.{ℕ, length}
use Rattle.language.specs.Syntax.{Item, i_word, i_arr, i_data, i_table, i_fn, i_use}

abbrev pub elements : Item → ℕ
elements (i_word x) = 0
elements (i_arr a) = a.size
elements (i_data w x ns) = length ns
elements (i_table x fs) = 0
elements (i_fn g) = 0
elements (i_use y xs) = 0
