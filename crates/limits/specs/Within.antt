-- What the checks ask of an item that can be told without looking names up.
use Rattle.std.specs.Prelude.{ℕ, Bool, true, ◌&&◌, List, [], ◌∷◌, ◌++◌, length, nat_le}
use Rattle.language.specs.Syntax.{Name, Fn, Item, i_word, i_arr, i_data, i_table, i_fn, i_use}
use Rattle.language.specs.Checks.{once, sizes, words_ok, param_names, arr_names}
use Rattle.rows.specs.Trees.{Local, map_list}

abbrev pub local_names : List Local → List Name
local_names ls = map_list (λ (l : Local). l.name) ls

-- 1 to n elements
abbrev pub size_within : ℕ → ℕ → Bool
size_within n size = nat_le 1 size && nat_le size n

-- own arrays have 1 to 4,096 elements
abbrev pub local_sizes : List Local → Bool
local_sizes [] = true
local_sizes (l ∷ ls) = size_within 4096 l.size && local_sizes ls

-- at most 8 parameters, 64 variables and 16 arrays
abbrev pub few : ℕ → ℕ → ℕ → Bool
few params vars arrays = nat_le params 8 && (nat_le vars 64 && nat_le arrays 16)

-- a function, but for its body
abbrev pub fn_within : Fn → Bool
fn_within g =
    few (length g.params) (length g.vars) (length g.arrs) && (
    sizes 4096 g.arrs &&
    once (param_names g.params ++ (g.vars ++ arr_names g.arrs)))

-- what stands at the top: arrays have 1 to 65,536 elements, or values that are words or bytes
abbrev pub item_within : Item → Bool
item_within (i_word x) = true
item_within (i_arr a) = size_within 65536 a.size
item_within (i_data w x ns) = nat_le 1 (length ns) && words_ok w ns
item_within (i_table x fs) = true
item_within (i_fn g) = fn_within g
item_within (i_use y xs) = true
