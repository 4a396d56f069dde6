-- Where the parts of a program's row stand: files, items, functions and their names.
use Rattle.std.proofs.Common.{◌≡◌, ℕ, suc, ◌+◌, ◌<◌, min, Bool, true, false, eqb, List, [], ◌∷◌, ◌++◌, length, sym, refl, ap, ◌∙◌, subst, append_assoc, arith, length-append}
use Rattle.language.specs.Syntax.{Name, Arr, Fn, Item, i_word, i_arr, i_data, i_table, i_fn, i_use, File, Prog}
use Rattle.language.specs.Words.{bit}
use Rattle.language.specs.Checks.{file_names}
use Rattle.rows.specs.Has.{Has, named}
use Rattle.rows.specs.Nodes.{num_row, nodes_row, nodes_b, body_row}
use Rattle.rows.specs.Trees.{Local, list_row, map_list, of_param, of_var, of_array, locals, local_row, fn_row, name_of, tail_row, rest_row, item_row, file_row}
use Rattle.rows.proofs.Having.{has-next, has_left, has_right, has_to, has_as}
use Rattle.rows.proofs.TreeNodes.{bodies-nodes}
use Rattle.rows.specs.declared.kind.ItemKind.{ItemKind}
use Rattle.rows.specs.declared.kind.ItemKind.TheVariants.{Word, Array, Data, Table, Function, Use}
use Rattle.rows.specs.Kinds.{kind_of_item}
use Rattle.limits.specs.Entries.{NamesAt}

-- the items of a file, behind its name
module _ {w : List ℕ} {file head : ℕ} (small : length w < 18446744073709551616) (to : (x : Name) → Has w file (named x) → head ≡ file + (length x + 1)) (f : File) (h : Has w file (file_row f)) where
  pub at_head : Has w head (length f.items ∷ list_row item_row f.items)
  at_head =
      let b = length f.items ∷ list_row item_row f.items in
      has_to (omega (arith, to f.name (has_left (named f.name) b h))) (has_right (named f.name) b h)

  pub file_ends : {here : ℕ} → here ≡ min (head + 1) 18446744073709551615 → here + length (list_row item_row f.items) ≡ file + length (file_row f)
  file_ends e =
      let b = length f.items ∷ list_row item_row f.items in
      omega (arith, to f.name (has_left (named f.name) b h), length-append (named f.name) b, at_head.inside)

-- a file's name
pub file-name : {w : List ℕ} {a : ℕ} (f : File) → Has w a (file_row f) → Has w a (named f.name)
file-name f h = has_left (named f.name) (length f.items ∷ list_row item_row f.items) h

-- an item's name
module _ {w : List ℕ} {item at_name : ℕ} (small : length w < 18446744073709551616) (sum : at_name ≡ min (item + 2) 18446744073709551615) (i : Item) (h : Has w item (item_row i)) where
  item_rest : Has w at_name (named (name_of i) ++ tail_row i)
  unfolding rest_row
  item_rest = let k = has-next (has-next h) in has_to (omega (arith, k.inside)) k

  pub item_name : Has w at_name (named (name_of i))
  item_name = has_left (named (name_of i)) (tail_row i) item_rest

-- what follows an item's name
module _ {w : List ℕ} {item at_name tail : ℕ} (small : length w < 18446744073709551616) (sum : at_name ≡ min (item + 2) 18446744073709551615) (to : (x : Name) → Has w at_name (named x) → tail ≡ at_name + (length x + 1)) (i : Item) (h : Has w item (item_row i)) where
  pub item_tail : Has w tail (tail_row i)
  item_tail = has_to (omega (arith, to (name_of i) (item_name small sum i h))) (has_right (named (name_of i)) (tail_row i) (item_rest small sum i h))

-- the name of a function's name, behind its kind and size
pub local_name : {w : List ℕ} {a s : ℕ} → length w < 18446744073709551616 → s ≡ min (a + 3) 18446744073709551615 → (l : Local) → Has w a (local_row l) → Has w s (named l.name)
local_name small sum l h = let k = has-next (has-next (has-next h)) in has_to (omega (arith, k.inside)) k

-- the size of a function's name, behind its kind
pub local_size : {w : List ℕ} {a s : ℕ} → length w < 18446744073709551616 → s ≡ min (a + 1) 18446744073709551615 → (l : Local) → Has w a (local_row l) → Has w s (num_row l.size)
local_size small sum l h = let k = has_left (num_row l.size) (named l.name) (has-next h) in has_to (omega (arith, k.inside)) k

long-map : {A C : Type 0} (f : A → C) (xs : List A) → length (map_list f xs) ≡ length xs
long-map f [] = refl
long-map f (x ∷ xs) = ap suc (long-map f xs)

pub long-locals : (g : Fn) → length (locals g) ≡ length g.params + (length g.vars + length g.arrs)
long-locals g =
    let vs = map_list of_array g.arrs in
    let us = map_list of_var g.vars in
    omega (arith, length-append (map_list of_param g.params) (us ++ vs), length-append us vs, long-map of_param g.params, long-map of_var g.vars, long-map of_array g.arrs)

pub list_row-append : {A : Type 0} (row : A → List ℕ) (xs ys : List A) → list_row row (xs ++ ys) ≡ list_row row xs ++ list_row row ys
list_row-append row [] ys = refl
list_row-append row (x ∷ xs) ys = ap (λ (l : List ℕ). row x ++ l) (list_row-append row xs ys) ∙ sym (append_assoc (row x) (list_row row xs) (list_row row ys))

-- a function: its names, its own arrays behind the parameters and variables, its body
module _ {w : List ℕ} {place : ℕ} (g : Fn) (h : Has w place (fn_row g)) where
  pub names_and_body : Has w (place + 3) (list_row local_row (locals g) ++ body_row g.body)
  names_and_body = let k = has-next (has-next (has-next h)) in has_to (omega arith) k

  pub locals_at : Has w (place + 3) (list_row local_row (locals g))
  locals_at = has_left (list_row local_row (locals g)) (body_row g.body) names_and_body

  pub words_at : Has w (place + 3) (list_row local_row (map_list of_param g.params ++ map_list of_var g.vars))
  words_at =
      let ps = map_list of_param g.params in
      let vs = map_list of_var g.vars in
      let us = map_list of_array g.arrs in
      has_left (list_row local_row (ps ++ vs)) (list_row local_row us) (has_as (ap (list_row local_row) (sym (append_assoc ps vs us)) ∙ list_row-append local_row (ps ++ vs) us) locals_at)

  pub params_at : Has w (place + 3) (list_row local_row (map_list of_param g.params))
  params_at =
      let ps = map_list of_param g.params in
      let vs = map_list of_var g.vars in
      has_left (list_row local_row ps) (list_row local_row vs) (has_as (list_row-append local_row ps vs) words_at)

pub long_params : (g : Fn) → length (map_list of_param g.params) ≡ length g.params
long_params g = long-map of_param g.params

pub long_words : (g : Fn) → length (map_list of_param g.params ++ map_list of_var g.vars) ≡ length g.params + length g.vars
long_words g = omega (arith, length-append (map_list of_param g.params) (map_list of_var g.vars), long-map of_param g.params, long-map of_var g.vars)

pub arrays_at : {w : List ℕ} {a b : ℕ} (g : Fn) → Has w a (list_row local_row (locals g)) → b ≡ a + length (list_row local_row (map_list of_param g.params ++ map_list of_var g.vars)) → Has w b (list_row local_row (map_list of_array g.arrs))
arrays_at g h e =
    let ps = map_list of_param g.params in
    let vs = map_list of_var g.vars in
    let us = map_list of_array g.arrs in
    has_to (sym e) (has_right (list_row local_row (ps ++ vs)) (list_row local_row us) (has_as (ap (list_row local_row) (sym (append_assoc ps vs us)) ∙ list_row-append local_row (ps ++ vs) us) h))

pub long_arrays : (g : Fn) → length (map_list of_array g.arrs) ≡ length g.arrs
long_arrays g = long-map of_array g.arrs

pub body_at : {w : List ℕ} {a b : ℕ} (g : Fn) → Has w a (list_row local_row (locals g) ++ body_row g.body) → b ≡ a + length (list_row local_row (locals g)) → Has w b (nodes_row (nodes_b g.body))
body_at g h e = has_as (bodies-nodes g) (has_to (sym e) (has_right (list_row local_row (locals g)) (body_row g.body) h))

-- what is to be shown of an item of a kind, which stands at a place
abbrev pub OnKind : List ℕ → ℕ → (Item → Type 0) → ItemKind → Type 0
OnKind w a C Word = (x : Name) → Has w a (item_row (i_word x)) → C (i_word x)
OnKind w a C Array = (b : Arr) → Has w a (item_row (i_arr b)) → C (i_arr b)
OnKind w a C Data = (b : Bool) (x : Name) (ns : List ℕ) → Has w a (item_row (i_data b x ns)) → C (i_data b x ns)
OnKind w a C Table = (x : Name) (fs : List Name) → Has w a (item_row (i_table x fs)) → C (i_table x fs)
OnKind w a C Function = (g : Fn) → Has w a (item_row (i_fn g)) → C (i_fn g)
OnKind w a C Use = (y : Name) (xs : List Name) → Has w a (item_row (i_use y xs)) → C (i_use y xs)

-- an item, told by its kind
pub by_kind : {w : List ℕ} {a : ℕ} {kind : ItemKind} (of : ItemKind) (C : Item → Type 0) → ((i : Item) → Has w a (item_row i) → kind ≡ kind_of_item i) → kind ≡ of → OnKind w a C of → (i : Item) → Has w a (item_row i) → C i
by_kind {w} {a} of C is e it (i_word x) h = subst (OnKind w a C) (sym e ∙ is (i_word x) h) it x h
by_kind {w} {a} of C is e it (i_arr b) h = subst (OnKind w a C) (sym e ∙ is (i_arr b) h) it b h
by_kind {w} {a} of C is e it (i_data b x ns) h = subst (OnKind w a C) (sym e ∙ is (i_data b x ns) h) it b x ns h
by_kind {w} {a} of C is e it (i_table x fs) h = subst (OnKind w a C) (sym e ∙ is (i_table x fs) h) it x fs h
by_kind {w} {a} of C is e it (i_fn g) h = subst (OnKind w a C) (sym e ∙ is (i_fn g) h) it g h
by_kind {w} {a} of C is e it (i_use y xs) h = subst (OnKind w a C) (sym e ∙ is (i_use y xs) h) it y xs h

-- where the names of entries stand
pub names_here : {w : List ℕ} → NamesAt named (λ x. x) w 0
names_here x i h = has_to (omega arith) h

pub locals_here : {w : List ℕ} → NamesAt local_row (λ (l : Local). l.name) w 3
locals_here l i h = has_to (omega arith) (has-next (has-next (has-next h)))

pub files_here : {w : List ℕ} → NamesAt file_row (λ (f : File). f.name) w 0
files_here f i h = has_to (omega arith) (file-name f h)

pub map_same : (xs : List Name) → map_list (λ x. x) xs ≡ xs
map_same [] = refl
map_same (x ∷ xs) = ap (λ (l : List Name). x ∷ l) (map_same xs)

pub map_files : (fs : Prog) → map_list (λ (f : File). f.name) fs ≡ file_names fs
map_files [] = refl
map_files (f ∷ fs) = ap (λ (l : List Name). f.name ∷ l) (map_files fs)

-- a flag, told by its number
pub flag : {v : ℕ} (b : Bool) → v ≡ bit b → eqb v 1 ≡ b
flag true e = ap (λ (n : ℕ). eqb n 1) e
flag false e = ap (λ (n : ℕ). eqb n 1) e
