-- The checks part by part: what needs look-ups apart from what does not.
use Rattle.std.proofs.Common.{◌≡◌, Bool, true, false, ◌&&◌, leb, List, [], ◌∷◌, ◌++◌, length, sym, refl, ap, ◌∙◌, ap₂}
use Rattle.language.specs.Syntax.{Name, Item, i_word, i_arr, i_data, i_table, i_fn, i_use, Prog}
use Rattle.language.specs.Checks.{ok_b, once, sizes, words_ok, param_names, arr_names, ok_item, ok_is, names_in, file_names, ok_fs, has_main, totals}
use Rattle.limits.specs.Within.{item_within}
use Rattle.limits.specs.Split.{items_within, files_within, item_resolved, items_resolved, files_resolved, Splits}
use Rattle.limits.proofs.Flags.{and_assoc, and-true, and-false}

-- six in a row, the last apart
last_apart : (a b c d e f : Bool) → (a && (b && (c && (d && (e && f))))) ≡ (((a && (b && c)) && (d && e)) && f)
last_apart true true true true e f = refl
last_apart true true true false e f = refl
last_apart true true false d e f = refl
last_apart true false c d e f = refl
last_apart false b c d e f = refl

-- two of one sort and two of another
sorted : (a b c d : Bool) → ((a && b) && (c && d)) ≡ ((a && c) && (b && d))
sorted true true c d = refl
sorted true false true d = refl
sorted true false false d = refl
sorted false b c d = refl

-- the names of a file's top with its limits
names_sorted : (o a b c d : Bool) → (o && ((a && b) && (c && d))) ≡ (((a && o) && c) && (b && d))
names_sorted true true b c d = sorted true b c d
names_sorted true false b c d = refl
names_sorted false true b c d = refl
names_sorted false false b c d = refl

-- main with what needs look-ups
main-apart : (a m t b d : Bool) → (a && (m && (t && (b && d)))) ≡ ((a && (t && b)) && (m && d))
main-apart true true t b d = sym (and_assoc t b d)
main-apart true false t b d = sym (and-false (t && b))
main-apart false m t b d = refl

split-item : (p : Prog) (f : Name) (i : Item) → ok_item p f i ≡ (item_within i && item_resolved p f i)
split-item p f (i_word x) = refl
split-item p f (i_arr a) = sym (and-true (leb 1 a.size && leb a.size 65536))
split-item p f (i_data w x ns) = sym (and-true (leb 1 (length ns) && words_ok w ns))
split-item p f (i_table x fs) = refl
split-item p f (i_fn g) = last_apart (leb (length g.params) 8) (leb (length g.vars) 64) (leb (length g.arrs) 16) (sizes 4096 g.arrs) (once (param_names g.params ++ (g.vars ++ arr_names g.arrs))) (ok_b p f g false g.body)
split-item p f (i_use y xs) = refl

split-items : (p : Prog) (f : Name) (is : List Item) → ok_is p f is ≡ (items_within is && items_resolved p f is)
split-items p f [] = refl
split-items p f (i ∷ is) = ap₂ (λ (s t : Bool). s && t) (split-item p f i) (split-items p f is) ∙ sorted (item_within i) (item_resolved p f i) (items_within is) (items_resolved p f is)

split-files : (p fs : Prog) → ok_fs p fs ≡ (files_within fs && files_resolved p fs)
split-files p [] = refl
split-files p (f ∷ fs) =
    ap₂ (λ (s t : Bool). once (names_in f.items) && (s && t)) (split-items p f.name f.items) (split-files p fs)
    ∙ names_sorted (once (names_in f.items)) (items_within f.items) (items_resolved p f.name f.items) (files_within fs) (files_resolved p fs)

pub splits : Splits
splits p =
    ap (λ (t : Bool). once (file_names p) && (has_main p && (leb (totals p) 262144 && t))) (split-files p p)
    ∙ main-apart (once (file_names p)) (has_main p) (leb (totals p) 262144) (files_within p) (files_resolved p p)
