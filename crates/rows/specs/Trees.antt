-- A program as a row of words, a function of its tree; nothing in it refers to the text. A name is its length and its bytes. An item is its kind's
-- number, how many words it has more, its name and the rest, so that it is passed over in one step: the row is its own table.
use Rattle.std.specs.Prelude.{◌≡◌, ℕ, true, false, List, [], ◌∷◌, ◌++◌, length}
use Rattle.language.specs.Syntax.{Name, Kind, k_word, k_arr, Param, Arr, Fn, Item, i_word, i_arr, i_data, i_table, i_fn, i_use, File, Prog}
use Rattle.language.specs.Words.{bit}
use Rattle.rows.specs.Has.{named}
use Rattle.rows.specs.Nodes.{num_row, nodes_row, nodes_b, body_row}

-- the row of a list, element by element
abbrev pub list_row : {A : Type 0} → (A → List ℕ) → List A → List ℕ
list_row row [] = []
list_row row (x ∷ xs) = row x ++ list_row row xs

abbrev pub kind_no : Kind → ℕ
kind_no k_word = 0
kind_no (k_arr false) = 1
kind_no (k_arr true) = 2

-- a name of a function, with its kind; an own array has its size
pub record Local : Type 0 where
  pub name : Name
  pub kind : Kind
  pub size : ℕ

abbrev pub of_param : Param → Local
of_param q = record { name = q.name; kind = q.kind; size = 0 }

abbrev pub of_var : Name → Local
of_var x = record { name = x; kind = k_word; size = 0 }

abbrev pub of_array : Arr → Local
of_array a = record { name = a.name; kind = k_arr a.wide; size = a.size }

abbrev pub map_list : {A C : Type 0} → (A → C) → List A → List C
map_list f [] = []
map_list f (x ∷ xs) = f x ∷ map_list f xs

-- parameters, variables, own arrays
abbrev pub locals : Fn → List Local
locals g = map_list of_param g.params ++ (map_list of_var g.vars ++ map_list of_array g.arrs)

abbrev pub local_row : Local → List ℕ
local_row l = kind_no l.kind ∷ (num_row l.size ++ named l.name)

-- how many of each, all of them, the body
abbrev pub fn_row : Fn → List ℕ
fn_row g = length g.params ∷ length g.vars ∷ length g.arrs ∷ (list_row local_row (locals g) ++ body_row g.body)

abbrev pub item_no : Item → ℕ
item_no (i_word x) = 0
item_no (i_arr a) = 1
item_no (i_data w x ns) = 2
item_no (i_table x fs) = 3
item_no (i_fn g) = 4
item_no (i_use y xs) = 5

abbrev pub name_of : Item → Name
name_of (i_word x) = x
name_of (i_arr a) = a.name
name_of (i_data w x ns) = x
name_of (i_table x fs) = x
name_of (i_fn g) = g.name
name_of (i_use y xs) = y

-- what follows an item's name
abbrev pub tail_row : Item → List ℕ
tail_row (i_word x) = []
tail_row (i_arr a) = bit a.wide ∷ num_row a.size
tail_row (i_data w x ns) = bit w ∷ length ns ∷ list_row num_row ns
tail_row (i_table x fs) = length fs ∷ list_row named fs
tail_row (i_fn g) = fn_row g
tail_row (i_use y xs) = length xs ∷ list_row named xs

unfoldable pub rest_row : Item → List ℕ
rest_row i = named (name_of i) ++ tail_row i

abbrev pub item_row : Item → List ℕ
item_row i = item_no i ∷ length (rest_row i) ∷ rest_row i

abbrev pub file_row : File → List ℕ
file_row f = named f.name ++ (length f.items ∷ list_row item_row f.items)

abbrev pub prog_row : Prog → List ℕ
prog_row p = length p ∷ list_row file_row p

-- bodies are rows of nodes
abbrev pub BodiesNodes : Type 0
BodiesNodes = (g : Fn) → body_row g.body ≡ nodes_row (nodes_b g.body)
