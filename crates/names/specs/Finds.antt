-- What look-ups answer: a function's own name as the generator numbers it, what stands at the top, the file that a name is used from.
use Rattle.std.specs.Prelude.{◌≡◌, ℕ, ◌+◌, min, Bool, false, List, [], ◌∷◌, length, MatchOption, nat_eq, slice_index}
use Rattle.std.proofs.Math.Option.{Option, some, none}
use Rattle.std.specs.declared.option.Option as std
use Rattle.names.specs.declared.found.Spot.{Spot}
use Rattle.names.specs.declared.found.Own.{Own}
use Rattle.names.specs.declared.found.Passed.{Passed}
use Rattle.limits.specs.declared.entries.Entries.{Entries}
use Rattle.limits.specs.declared.entries.Items.{Items}
use Rattle.limits.specs.Entries.{Left}
use Rattle.language.specs.Syntax.{Name, listed, Kind, k_word, k_arr, Item, i_word, i_arr, i_data, i_table, i_fn, i_use, Prog}
use Rattle.language.specs.Meaning.{Top, top_of, resolve, as_fn, as_table, words_in, arrays_in, is_word, is_arr, is_table, is_fn}
use Rattle.steps.specs.Generate.{Slot, Ref, r_word, r_arr, find, slot_of, pos, number}
use Rattle.rows.specs.Has.{Has, named}
use Rattle.rows.specs.Kinds.{local_kind}
use Rattle.rows.specs.Trees.{Local, map_list, item_no, item_row}

abbrev pub local_names : List Local → List Name
local_names ls = map_list (λ (l : Local). l.name) ls

-- a function's own names as the generator has them
abbrev pub slots_in : List Local → List Slot
slots_in ls = map_list (λ (l : Local). slot_of l.name l.kind) ls

abbrev pub ref_kind : Ref → Kind
ref_kind (r_word i) = k_word
ref_kind (r_arr i w) = k_arr w

abbrev pub ref_index : Ref → ℕ
ref_index (r_word i) = i
ref_index (r_arr i w) = i

-- the first of the names that is x
pub record IsOwn (ss : List Slot) (x : Name) (o : Own) : Type 0 where
  pub ref : Ref
  pub is : find ss x 0 0 ≡ some ref
  pub index : o.index ≡ ref_index ref
  pub kind : o.kind ≡ local_kind (ref_kind ref)

abbrev pub FindsOwn : List Slot → Name → std.Option Own → Type 0
FindsOwn ss x r = MatchOption r (find ss x 0 0 ≡ none) (IsOwn ss x)

-- the top that an item is, behind w words and a arrays
abbrev pub top_in : Name → Item → ℕ → ℕ → Option Top
top_in f (i_word x) w a = some (record { file = f; name = x; is = is_word w })
top_in f (i_arr r) w a = some (record { file = f; name = r.name; is = is_arr a r.wide })
top_in f (i_data d x ns) w a = some (record { file = f; name = x; is = is_arr a d })
top_in f (i_table x fs) w a = some (record { file = f; name = x; is = is_table fs })
top_in f (i_fn g) w a = some (record { file = f; name = g.name; is = is_fn g })
top_in f (i_use x ys) w a = none

-- how many functions and tables an item is
abbrev pub fns_in : Item → ℕ
fns_in (i_word x) = 0
fns_in (i_arr r) = 0
fns_in (i_data d x ns) = 0
fns_in (i_table x fs) = 0
fns_in (i_fn g) = 1
fns_in (i_use x ys) = 0

abbrev pub tables_in : Item → ℕ
tables_in (i_word x) = 0
tables_in (i_arr r) = 0
tables_in (i_data d x ns) = 0
tables_in (i_table x fs) = 1
tables_in (i_fn g) = 0
tables_in (i_use x ys) = 0

-- a spot behind items, by how many of each kind were passed (kinds by their numbers)
abbrev pub behind : Passed → ℕ → ℕ → Spot
behind p file item = record { file = file; item = item; words = slice_index p.counts 0; arrays = min (slice_index p.counts 1 + slice_index p.counts 2) 18446744073709551615; fns = slice_index p.counts 4; tables = slice_index p.counts 3 }

-- one item on
pub record Passes (i : Item) (s t : Spot) : Type 0 where
  pub words : t.words ≡ min (s.words + words_in (i ∷ [])) 18446744073709551615
  pub arrays : t.arrays ≡ min (s.arrays + length (arrays_in (i ∷ []))) 18446744073709551615
  pub fns : t.fns ≡ min (s.fns + fns_in i) 18446744073709551615
  pub tables : t.tables ≡ min (s.tables + tables_in i) 18446744073709551615

-- the item at s, in its file, is the top t
pub record IsTop (row : List ℕ) (s : Spot) (t : Option Top) : Type 0 where
  pub file : Name
  pub item : Item
  pub at_file : Has row s.file (named file)
  pub at_item : Has row s.item (item_row item)
  pub is : t ≡ top_in file item s.words s.arrays
  pub not_use : nat_eq (item_no item) 5 ≡ false

-- x of the file f is at s, behind so many functions and tables
pub record TopAt (row : List ℕ) (ts : List Top) (f x : Name) (s : Spot) : Type 0 where
  pub top : IsTop row s (top_of ts f x)
  pub fns : pos as_fn ts f x ≡ s.fns
  pub tables : pos as_table ts f x ≡ s.tables

abbrev pub FindsTop : List ℕ → List Top → Name → Name → std.Option Spot → Type 0
FindsTop row ts f x r = MatchOption r (top_of ts f x ≡ none) (TopAt row ts f x)

-- the items that were found
abbrev pub FindsItems : List ℕ → List Item → std.Option (Entries Items) → Type 0
FindsItems row is r = MatchOption r (is ≡ []) (λ s. Left item_row row s is)

-- whether an item uses a name
abbrev pub uses : Item → Name → Bool
uses (i_word y) x = false
uses (i_arr r) x = false
uses (i_data d y ns) x = false
uses (i_table y fs) x = false
uses (i_fn g) x = false
uses (i_use y ys) x = listed x ys

-- the name that was found stands at a
pub record IsName (row : List ℕ) (o : Option Name) (a : ℕ) : Type 0 where
  pub name : Name
  pub here : Has row a (named name)
  pub is : o ≡ some name

abbrev pub FindsUse : List ℕ → Option Name → std.Option ℕ → Type 0
FindsUse row o r = MatchOption r (o ≡ none) (IsName row o)

-- what x means in the file f is at s; its number among functions, if it is one, and among tables
pub record ResolvedAt (row : List ℕ) (p : Prog) (f x : Name) (s : Spot) : Type 0 where
  pub top : IsTop row s (resolve p f x)
  pub fns : number as_fn p f x ≡ s.fns
  pub tables : number as_table p f x ≡ s.tables

abbrev pub Resolves : List ℕ → Prog → Name → Name → std.Option Spot → Type 0
Resolves row p f x r = MatchOption r (resolve p f x ≡ none) (ResolvedAt row p f x)
