-- What of the checks of files rests on names looked up: main, and what each item refers to.
use Rattle.std.specs.Prelude.{Bool, true, false, not, ◌&&◌, List, [], ◌∷◌}
use Rattle.language.specs.Syntax.{opt, Name, same, Param, Item, i_word, i_arr, i_data, i_table, i_fn, i_use, Prog}
use Rattle.language.specs.Meaning.{Top, top_of, all_tops}
use Rattle.language.specs.Checks.{ok_b, fn_named, same_ps, head_fn, alike, all_there, has_main}

-- whether a name is that of a function whose parameters have the kinds of qs, and whether a name stands at the top of a file itself
abbrev pub like : Prog → Name → List Param → Name → Bool
like p f qs x = opt (fn_named p f x) false (λ h. same_ps qs h.params)

abbrev pub there : List Top → Name → Name → Bool
there ts y x = opt (top_of ts y x) false (λ t. true)

-- what stands at the top of file f: a table's functions are alike, a function's body passes, what is used stands at the top of another file
abbrev pub item_resolved : Prog → Name → Item → Bool
item_resolved p f (i_word x) = true
item_resolved p f (i_arr a) = true
item_resolved p f (i_data w x ns) = true
item_resolved p f (i_table x fs) = opt (head_fn p f fs) false (λ qs. alike p f qs fs)
item_resolved p f (i_fn g) = ok_b p f g false g.body
item_resolved p f (i_use y xs) = not (same y f) && all_there (all_tops p 0 0) y xs

abbrev pub items_resolved : Prog → Name → List Item → Bool
items_resolved p f [] = true
items_resolved p f (i ∷ is) = item_resolved p f i && items_resolved p f is

-- in each of these files, which are of p
abbrev pub files_resolved : Prog → Prog → Bool
files_resolved p [] = true
files_resolved p (f ∷ fs) = items_resolved p f.name f.items && files_resolved p fs

abbrev pub resolved : Prog → Bool
resolved p = has_main p && files_resolved p p
