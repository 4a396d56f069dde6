-- What names are in a function: their kinds by numbers, and the parameters of what is called, as names that stand in the row.
use Rattle.std.specs.Prelude.{◌≡◌, ℕ, List, MatchOption, Some, None}
use Rattle.std.proofs.Math.Option.{Option, some, none}
use Rattle.std.specs.declared.option.Option as std
use Rattle.names.specs.declared.found.Spot.{Spot}
use Rattle.limits.specs.declared.entries.Entries.{Entries}
use Rattle.limits.specs.declared.entries.Locals.{Locals}
use Rattle.limits.specs.Entries.{Left}
use Rattle.rows.specs.declared.kind.LocalKind.{LocalKind}
use Rattle.rows.specs.Kinds.{local_kind}
use Rattle.language.specs.Syntax.{pick, Name, Kind, k_word, k_arr, Param, Fn, Item, i_word, i_arr, i_data, i_table, i_fn, i_use, Prog}
use Rattle.language.specs.Meaning.{on_some, Top, resolve}
use Rattle.language.specs.Checks.{kind_is, is_local, head_fn}
use Rattle.rows.specs.Trees.{map_list, of_param, local_row}
use Rattle.names.specs.Finds.{IsTop}

abbrev pub kind_of_item : Item → Option Kind
kind_of_item (i_word x) = some k_word
kind_of_item (i_arr a) = some (k_arr a.wide)
kind_of_item (i_data w x ns) = some (k_arr w)
kind_of_item (i_table x fs) = none
kind_of_item (i_fn g) = none
kind_of_item (i_use y xs) = none

-- the kind as the code has it
abbrev pub kind_found : Option Kind → std.Option LocalKind
kind_found none = None
kind_found (some k) = Some (local_kind k)

-- the parameters that were found stand where n says
pub record IsParams (row : List ℕ) (o : Option (List Param)) (n : Entries Locals) : Type 0 where
  pub params : List Param
  pub is : o ≡ some params
  pub there : Left local_row row n (map_list of_param params)

abbrev pub FindsParams : List ℕ → Option (List Param) → std.Option (Entries Locals) → Type 0
FindsParams row o r = MatchOption r (o ≡ none) (IsParams row o)

abbrev pub item_params : Item → Option (List Param)
item_params (i_word x) = none
item_params (i_arr a) = none
item_params (i_data w x ns) = none
item_params (i_table x fs) = none
item_params (i_fn g) = some g.params
item_params (i_use y xs) = none

-- the parameters of the functions of a table of file f
abbrev pub item_table : Prog → Name → Item → Option (List Param)
item_table p f (i_word x) = none
item_table p f (i_arr a) = none
item_table p f (i_data w x ns) = none
item_table p f (i_table x fs) = head_fn p f fs
item_table p f (i_fn g) = none
item_table p f (i_use y xs) = none

-- the kind of what a name means at the top of a file
abbrev pub kind_top : Prog → Name → Name → Option Kind
kind_top p f x = on_some (resolve p f x) (λ t. kind_is t.is)

-- what a name means that is called in a function g of file f: its own names hide those of the top
abbrev pub called : Prog → Name → Fn → Name → Option Top
called p f g x = pick (is_local g x) none (resolve p f x)

abbrev pub FindsCalled : List ℕ → Option Top → std.Option Spot → Type 0
FindsCalled row o r = MatchOption r (o ≡ none) (λ s. IsTop row s o)
