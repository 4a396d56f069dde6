-- The kinds of items and of a function's names, and their numbers.
use Rattle.std.specs.Prelude.{◌≡◌, ℕ, ◌<◌, true, false, Result, MatchResult}
use Rattle.language.specs.Syntax.{Kind, k_word, k_arr, Item, i_word, i_arr, i_data, i_table, i_fn, i_use}
use Rattle.rows.specs.declared.kind.ItemKind.{ItemKind}
use Rattle.rows.specs.declared.kind.ItemKind.TheVariants.{Word, Array, Data, Table, Function, Use}
use Rattle.rows.specs.declared.kind.LocalKind.{LocalKind}
use Rattle.rows.specs.declared.kind.LocalKind.TheVariants.{Word as One, Bytes, Words}
use Rattle.rows.specs.declared.kind.NoKind.{NoKind}

abbrev pub kind_of_item : Item → ItemKind
kind_of_item (i_word x) = Word
kind_of_item (i_arr a) = Array
kind_of_item (i_data w x ns) = Data
kind_of_item (i_table x fs) = Table
kind_of_item (i_fn g) = Function
kind_of_item (i_use y xs) = Use

abbrev pub item_kind_no : ItemKind → ℕ
item_kind_no Word = 0
item_kind_no Array = 1
item_kind_no Data = 2
item_kind_no Table = 3
item_kind_no Function = 4
item_kind_no Use = 5

abbrev pub local_kind : Kind → LocalKind
local_kind k_word = One
local_kind (k_arr false) = Bytes
local_kind (k_arr true) = Words

abbrev pub local_kind_no : LocalKind → ℕ
local_kind_no One = 0
local_kind_no Bytes = 1
local_kind_no Words = 2

-- the kind with this number, or none has it
abbrev pub ItemNumbers : ℕ → Result ItemKind NoKind → Type 0
ItemNumbers n r = MatchResult r (λ kind. item_kind_no kind ≡ n) (λ e. (e.0 ≡ n) × (5 < n))

abbrev pub LocalNumbers : ℕ → Result LocalKind NoKind → Type 0
LocalNumbers n r = MatchResult r (λ kind. local_kind_no kind ≡ n) (λ e. (e.0 ≡ n) × (2 < n))
