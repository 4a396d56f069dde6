-- Items from their parts, and an item by its first word, against the model parser.
use Rattle.std.proofs.Common.{◌≡◌, ℕ, ◌+◌, ◌-◌, ◌*◌, ◌≤◌, Bool, true, false, List, [], ◌∷◌, ◌++◌, length, Ok, Err, Result, sym, refl, ap, ◌∙◌, subst, append-nil, arith, Bor}
use mathlib.Core.Option.{Option, some, none}
use mir.Val.{bool_byte}
use Rattle.language.specs.Words.{bit}
use Rattle.language.specs.Syntax.{pick, opt, Name, same, i_word, i_arr, i_data, i_table, i_use}
use Rattle.grammar.specs.Text.{pieces, gap, t_semi, t_gets, k_var, k_array, k_bytes, k_table, k_use, k_fn}
use Rattle.grammar.specs.Parse.{Res, fail, got, bind, eat}
use Rattle.grammar.specs.ParseAll.{names_in, in_quotes, size, text_to, array_it, bytes_it, it_by, Head, h_var, h_array, h_bytes, h_table, h_use, h_fn, head_of, item}
use Rattle.rows.specs.declared.row.Row.{Row}
use Rattle.rows.specs.Row.{Wrote, Patched}
use Rattle.rows.specs.Has.{named}
use Rattle.rows.specs.Nodes.{num_row}
use Rattle.rows.specs.Trees.{list_row, rest_row, item_row}
use Rattle.rows.proofs.Writing.{wrote-more}
use Rattle.pieces.specs.declared.refused.Refused.{Refused}
use Rattle.pieces.specs.Seen.{ate, is_no_name, Ate, AteName}
use Rattle.bodies.specs.Outcome.{Did, Parsed}
use Rattle.bodies.proofs.Statements.{eat-map}
use Rattle.bodies.proofs.Expressions.{did_more, bind-got, not_same, eat-got, name-got, name-fail}
use Rattle.parser.specs.Lists.{DidList, name_row, Sized, values_in}
use Rattle.parser.specs.Programs.{array_head, sized_in, data_in, listed_item, listed_in}
use Rattle.parser.proofs.Patching.{patched, patched_next, closed}
use Rattle.parser.proofs.Listing.{size-got}

-- no name where one must stand
pub no-name-var : (s : List Name) → is_no_name s ≡ true → it_by h_var s ≡ fail
no-name-var s e = name-fail s _ e

pub no-name-array : (b : Bool) (s : List Name) → is_no_name s ≡ true → it_by (array_head b) s ≡ fail
no-name-array true s e = name-fail s _ e
no-name-array false s e = name-fail s _ e

pub no-name-table : (s : List Name) → is_no_name s ≡ true → it_by h_table s ≡ fail
no-name-table s e = name-fail s _ e

pub no-name_use : (s : List Name) → is_no_name s ≡ true → it_by h_use s ≡ fail
no-name_use s e = name-fail s _ e

-- a word
pub var-did : {t r q : List ℕ} {o p v : Row} (x : Name) → AteName x t r → Ate t_semi r q → Wrote o p (0 ∷ 0 ∷ named x) → Patched p v (o.len + 1) (p.len - o.len - 2) → Did 0 (it_by h_var (pieces gap t)) item_row t q o v
unfolding rest_row
var-did x a b w g =
    let i = a.less in let j = a.some in let k = b.less in let l = w.long in let m = g.long in
    record { tree = i_word x; is = name-got x _ a ∙ eat-got t_semi _ b; wrote = closed (i_word x) (named x) (sym (append-nil (named x))) w g; within = omega arith; on = omega arith }

-- what is read from further on, with more words in hand
pub parsed_more : {A : Type 0} {m n : Res A} (row : A → List ℕ) (s t : List ℕ) (o p : Row) (res : Result (Bor (List ℕ)) Refused) (d e : ℕ) → n ≡ m → length s + (1 - e) ≤ length t → d + 4 * length s ≤ e + 4 * length t → Parsed d m row s o p res → Parsed e n row t o p res
parsed_more row s t o p (Ok x) d e q h k a = did_more d e q h k a
parsed_more row s t o p (Err y) d e q h k a = q ∙ a

-- tables and uses
pub listed-did : {t r : List ℕ} {k : ℕ} {o p₁ p₂ p₃ p₄ p₅ : Row} (used : Bool) (x : Name) (n : ℕ) → n ≡ pick used 5 3 → Wrote o p₁ (n ∷ 0 ∷ named x) → Wrote p₁ p₂ (0 ∷ []) → DidList 0 (names_in (pieces gap t)) (name_row false) t r k p₂ p₃ → Patched p₃ p₄ p₁.len k → Patched p₄ p₅ (o.len + 1) (p₄.len - o.len - 2) → Did (4 * length x + 4) (listed_in used x (pieces gap t)) item_row t r o p₅
unfolding rest_row
listed-did {k = k} {o = o} {p₄ = p₄} used x n e w₁ w₂ d g h =
    let l₁ = w₁.long in let l₂ = w₂.long in let u = d.did.within in let m₁ = g.long in let m₂ = h.long in
    let ys : List Name = d.did.tree in
    let far = patched (n ∷ 0 ∷ named x) (list_row named ys) 0 k _ l₁ (wrote-more w₁ (wrote-more w₂ d.did.wrote)) g in
    let all : Wrote o p₄ (n ∷ 0 ∷ (named x ++ (length ys ∷ list_row named ys))) = subst (λ (c : ℕ). Wrote o p₄ (n ∷ 0 ∷ (named x ++ (c ∷ list_row named ys)))) (sym d.num) far in
    record { tree = listed_item used x ys; is = bind-got _ ys _ d.did.is; wrote = row ys p₄ used e all h; within = omega arith; on = omega arith }
  where
    row : (ys : List Name) (p : Row) {q : Row} (b : Bool) → n ≡ pick b 5 3 → Wrote o p (n ∷ 0 ∷ (named x ++ (length ys ∷ list_row named ys))) → Patched p q (o.len + 1) (p.len - o.len - 2) → Wrote o q (item_row (listed_item b x ys))
    row ys p true f w v = closed (i_use x ys) _ refl (subst (λ (m : ℕ). Wrote o p (m ∷ 0 ∷ (named x ++ (length ys ∷ list_row named ys)))) f w) v
    row ys p false f w v = closed (i_table x ys) _ refl (subst (λ (m : ℕ). Wrote o p (m ∷ 0 ∷ (named x ++ (length ys ∷ list_row named ys)))) f w) v

-- arrays with values
pub byte_is : (w : Bool) → bool_byte w ≡ bit w
byte_is true = refl
byte_is false = refl

pub data_did : {t r : List ℕ} {k : ℕ} {o p₁ p₂ p₃ p₄ p₅ : Row} (w : Bool) (x : Name) (b : ℕ) → b ≡ bit w → 1 ≤ length x → Wrote o p₁ (2 ∷ 0 ∷ named x) → Wrote p₁ p₂ (b ∷ 0 ∷ []) → DidList 0 (values_in w (pieces gap t)) num_row t r k p₂ p₃ → Patched p₃ p₄ (p₁.len + 1) k → Patched p₄ p₅ (o.len + 1) (p₄.len - o.len - 2) → Did (4 * length x + 4) (data_in w x (pieces gap t)) item_row t r o p₅
unfolding rest_row
data_did {k = k} {o = o} {p₁ = p₁} {p₄ = p₄} w x b e j w₁ w₂ d g h =
    let l₁ = w₁.long in let l₂ = w₂.long in let u = d.did.within in let m₁ = g.long in let m₂ = h.long in
    let ns : List ℕ = d.did.tree in
    let far = patched_next (2 ∷ 0 ∷ named x) (list_row num_row ns) b k p₁.len l₁ (wrote-more w₁ (wrote-more w₂ d.did.wrote)) g in
    let all : Wrote o p₄ (2 ∷ 0 ∷ (named x ++ (b ∷ length ns ∷ list_row num_row ns))) = subst (λ (c : ℕ). Wrote o p₄ (2 ∷ 0 ∷ (named x ++ (b ∷ c ∷ list_row num_row ns)))) (sym d.num) far in
    let told : Wrote o p₄ (2 ∷ 0 ∷ (named x ++ (bit w ∷ length ns ∷ list_row num_row ns))) = subst (λ (c : ℕ). Wrote o p₄ (2 ∷ 0 ∷ (named x ++ (c ∷ length ns ∷ list_row num_row ns)))) e all in
    record { tree = i_data w x ns; is = bind-got _ ns _ d.did.is; wrote = closed (i_data w x ns) _ refl told h; within = omega arith; on = omega arith }

text-data : (x : Name) (s : List Name) → text_to x s ≡ data_in false x s
text-data x [] = refl
text-data x (q ∷ s) = go (in_quotes q)
  where
    go : (o : Option (List ℕ)) → opt o fail (λ ns. eat t_semi s (λ r. got (i_data false x ns) r)) ≡ bind (opt o fail (λ ns. eat t_semi s (λ r. got ns r))) (λ ns r. got (i_data false x ns) r)
    go none = refl
    go (some ns) = eat-map t_semi s ns (i_data false x)

pub data-is : {t r q : List ℕ} (w : Bool) (x : Name) → AteName x t r → Ate t_gets r q → it_by (array_head w) (pieces gap t) ≡ data_in w x (pieces gap q)
data-is true x a b = name-got x _ a ∙ ap (array_it x) b.said
data-is {q = q} false x a b = name-got x _ a ∙ ap (bytes_it x) b.said ∙ text-data x (pieces gap q)

-- arrays with sizes
array-sized : (x : Name) (s : List Name) → ate t_gets s ≡ none → array_it x s ≡ size s (λ n r. got (i_arr (record { name = x; wide = true; size = n })) r)
array-sized x [] e = refl
array-sized x (w ∷ s) e = rw (not_same w t_gets s (same w t_gets) refl e)

bytes-sized : (x : Name) (s : List Name) → ate t_gets s ≡ none → bytes_it x s ≡ size s (λ n r. got (i_arr (record { name = x; wide = false; size = n })) r)
bytes-sized x [] e = refl
bytes-sized x (w ∷ s) e = rw (not_same w t_gets s (same w t_gets) refl e)

pub sized-is : {t r : List ℕ} (w : Bool) (x : Name) → AteName x t r → ate t_gets (pieces gap r) ≡ none → it_by (array_head w) (pieces gap t) ≡ sized_in w x (pieces gap r)
sized-is {r = r} true x a e = name-got x _ a ∙ array-sized x (pieces gap r) e
sized-is {r = r} false x a e = name-got x _ a ∙ bytes-sized x (pieces gap r) e

pub sized-did : {t r : List ℕ} {o p₁ p₂ p₃ p₄ : Row} (w : Bool) (x : Name) (n b : ℕ) → b ≡ bit w → Sized n t r → Wrote o p₁ (1 ∷ 0 ∷ named x) → Wrote p₁ p₂ (b ∷ []) → Wrote p₂ p₃ (num_row n) → Patched p₃ p₄ (o.len + 1) (p₃.len - o.len - 2) → Did (4 * length x) (sized_in w x (pieces gap t)) item_row t r o p₄
unfolding rest_row
sized-did {o = o} {p₃ = p₃} w x n b e s w₁ w₂ w₃ g =
    let k = s.less in let l₁ = w₁.long in let l₂ = w₂.long in let l₃ = w₃.long in let m = g.long in
    let told : Wrote o p₃ (1 ∷ 0 ∷ (named x ++ (bit w ∷ num_row n))) = subst (λ (c : ℕ). Wrote o p₃ (1 ∷ 0 ∷ (named x ++ (c ∷ num_row n)))) e (wrote-more w₁ (wrote-more w₂ w₃)) in
    record { tree = i_arr (record { name = x; wide = w; size = n }); is = size-got n _ s; wrote = closed (i_arr (record { name = x; wide = w; size = n })) _ refl told g; within = omega arith; on = omega arith }

-- an item by its first word
pub by-head : {t r : List ℕ} (o p : Row) (w : Name) (h : Head) (res : Result (Bor (List ℕ)) Refused) → head_of w ≡ h → Ate w t r → Parsed 0 (it_by h (pieces gap r)) item_row r o p res → Parsed 0 (item (pieces gap t)) item_row t o p res
by-head {t} {r} o p w h (Ok x) e a d = let l = a.less in let u = d.within in let v = d.on in record { tree = d.tree; is = ap item a.said ∙ ap (λ k. it_by k (pieces gap r)) e ∙ d.is; wrote = d.wrote; within = omega arith; on = omega arith }
by-head {t} {r} o p w h (Err y) e a d = ap item a.said ∙ ap (λ k. it_by k (pieces gap r)) e ∙ d

pub head-var : head_of k_var ≡ h_var
unfolding head_of
head-var = refl

pub head-array : head_of k_array ≡ h_array
unfolding head_of
head-array = refl

pub head_bytes : head_of k_bytes ≡ h_bytes
unfolding head_of
head_bytes = refl

pub head-table : head_of k_table ≡ h_table
unfolding head_of
head-table = refl

pub head_use : head_of k_use ≡ h_use
unfolding head_of
head_use = refl

pub head_fn : head_of k_fn ≡ h_fn
unfolding head_of
head_fn = refl

pub no-head : (s : List Name) → ate k_var s ≡ none → ate k_array s ≡ none → ate k_bytes s ≡ none → ate k_table s ≡ none → ate k_use s ≡ none → ate k_fn s ≡ none → item s ≡ fail
unfolding head_of
no-head [] a b c d e f = refl
no-head (w ∷ s) a b c d e f = rw (not_same w k_var s (same w k_var) refl a, not_same w k_array s (same w k_array) refl b, not_same w k_bytes s (same w k_bytes) refl c, not_same w k_table s (same w k_table) refl d, not_same w k_use s (same w k_use) refl e, not_same w k_fn s (same w k_fn) refl f)
