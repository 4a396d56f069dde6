-- What the code that reads items, files and whole texts answers. ReadAs is what a caller of `parse` learns: the program that the text is,
-- if the checks accept it, and that its row was written.
use Rattle.std.specs.Prelude.{◌≡◌, ℕ, T, Bool, true, false, List, []}
use Rattle.language.specs.Syntax.{Name, Item, i_arr, i_data, i_table, i_use, File, Prog}
use Rattle.grammar.specs.Text.{pieces, gap, t_semi, AreFiles}
use Rattle.grammar.specs.Parse.{Res, got, bind, eat, eat_name}
use Rattle.grammar.specs.ParseAll.{size, names_in, Head, h_array, h_bytes, again, items_step, parse}
use Rattle.grammar.specs.Reading.{small}
use Rattle.rows.specs.declared.row.Row.{Row}
use Rattle.rows.specs.Row.{Wrote}
use Rattle.rows.specs.Trees.{prog_row}
use Rattle.parser.specs.Lists.{values_in}

-- an item's parts, as its code is cut: an array by its size or with its values, and names that are listed for use or as a table
abbrev pub array_head : Bool → Head
array_head true = h_array
array_head false = h_bytes

abbrev pub sized_in : Bool → Name → List Name → Res Item
sized_in wide x s = size s (λ n r. got (i_arr (record { name = x; wide = wide; size = n })) r)

abbrev pub data_in : Bool → Name → List Name → Res Item
data_in wide x s = bind (values_in wide s) (λ ns r. got (i_data wide x ns) r)

abbrev pub listed_item : Bool → Name → List Name → Item
listed_item true x ys = i_use x ys
listed_item false x ys = i_table x ys

abbrev pub listed_in : Bool → Name → List Name → Res Item
listed_in used x s = bind (names_in s) (λ ys r. got (listed_item used x ys) r)

-- a file, behind its first word
abbrev pub file_of : List Name → Res File
file_of s = eat_name s (λ x s₁. eat t_semi s₁ (λ s₂. bind (again items_step s₂) (λ is r. got (record { name = x; items = is }) r)))

-- a text that is written as a program is, within the limits, and the program's row
pub record ReadAs (t : List ℕ) (o p : Row) : Type 0 where
  pub prog : Prog
  pub said : AreFiles (pieces gap t) prog
  pub parsed : parse (pieces gap t) ≡ got prog []
  pub small : T (small t)
  pub wrote : Wrote o p (prog_row prog)

-- no program is written as the text is, within the limits: so none reads as the text
abbrev pub Unread : List ℕ → Type 0
Unread t = (p : Prog) → AreFiles (pieces gap t) p → T (small t) → ⊥
