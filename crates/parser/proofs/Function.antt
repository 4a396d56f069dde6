-- A function from its parts: its names as one list, its three counts and its length set at the end.
use Rattle.std.proofs.Common.{◌≡◌, ℕ, ◌+◌, ◌-◌, true, List, [], ◌∷◌, ◌++◌, length, sym, refl, ap, ◌∙◌, subst, ap₂, append_assoc, arith}
use Rattle.language.specs.Syntax.{Name, Param, Arr, Block, i_fn}
use Rattle.grammar.specs.Text.{pieces, gap, t_lp, t_lc}
use Rattle.grammar.specs.Parse.{fail}
use Rattle.grammar.specs.ParseAll.{again, pars_of, vars_in, arrs_step, body, it_by, h_fn}
use Rattle.rows.specs.declared.row.Row.{Row}
use Rattle.rows.specs.Row.{Wrote, Patched}
use Rattle.rows.specs.Has.{named}
use Rattle.rows.specs.Nodes.{block_row}
use Rattle.rows.specs.Trees.{list_row, map_list, local_row, of_param, of_var, of_array, rest_row, item_row}
use Rattle.rows.proofs.Writing.{wrote-more}
use Rattle.pieces.specs.Seen.{is_no_name, Ate, AteName}
use Rattle.bodies.specs.Outcome.{Did}
use Rattle.bodies.proofs.Expressions.{bind-got, name-got, name-fail, eat-got}
use Rattle.parser.specs.Lists.{DidList, name_row, param_row, array_row}
use Rattle.parser.proofs.Patching.{patched_3, closed}

list_append : {A : Type 0} (row : A → List ℕ) (xs ys : List A) → list_row row (xs ++ ys) ≡ list_row row xs ++ list_row row ys
list_append row [] ys = refl
list_append row (x ∷ xs) ys = ap (λ l. row x ++ l) (list_append row xs ys) ∙ sym (append_assoc (row x) (list_row row xs) (list_row row ys))

list_map : {A B : Type 0} (row : B → List ℕ) (f : A → B) (xs : List A) → list_row row (map_list f xs) ≡ list_row (λ x. row (f x)) xs
list_map row f [] = refl
list_map row f (x ∷ xs) = ap (λ l. row (f x) ++ l) (list_map row f xs)

-- one list of names, part by part
locals-row : (ps : List Param) (vs : List Name) (as₁ : List Arr) → list_row local_row (map_list of_param ps ++ (map_list of_var vs ++ map_list of_array as₁)) ≡ list_row param_row ps ++ (list_row (name_row true) vs ++ list_row array_row as₁)
locals-row ps vs as₁ =
    list_append local_row (map_list of_param ps) (map_list of_var vs ++ map_list of_array as₁)
    ∙ ap₂ (λ a b. a ++ b) (list_map local_row of_param ps) (list_append local_row (map_list of_var vs) (map_list of_array as₁) ∙ ap₂ (λ a b. a ++ b) (list_map local_row of_var vs) (list_map local_row of_array as₁))

parts_row : (ps : List Param) (vs : List Name) (as₁ : List Arr) (b : List ℕ) → list_row param_row ps ++ (list_row (name_row true) vs ++ (list_row array_row as₁ ++ b)) ≡ list_row local_row (map_list of_param ps ++ (map_list of_var vs ++ map_list of_array as₁)) ++ b
parts_row ps vs as₁ b =
    ap (λ l. list_row param_row ps ++ l) (sym (append_assoc (list_row (name_row true) vs) (list_row array_row as₁) b))
    ∙ sym (append_assoc (list_row param_row ps) (list_row (name_row true) vs ++ list_row array_row as₁) b)
    ∙ ap (λ l. l ++ b) (sym (locals-row ps vs as₁))

fn-wrote : {o p : Row} (x : Name) (ps : List Param) (vs : List Name) (as₁ : List Arr) (b : Block) (i j k : ℕ) → length ps ≡ i → length vs ≡ j → length as₁ ≡ k → Wrote o p ((4 ∷ 0 ∷ named x) ++ (i ∷ j ∷ k ∷ (list_row param_row ps ++ (list_row (name_row true) vs ++ (list_row array_row as₁ ++ (block_row b ++ (25 ∷ []))))))) → Wrote o p (4 ∷ 0 ∷ rest_row (i_fn (record { name = x; params = ps; vars = vs; arrs = as₁; body = b })))
unfolding rest_row
fn-wrote {o} {p} x ps vs as₁ b i j k e f g w =
    let z = list_row local_row (map_list of_param ps ++ (map_list of_var vs ++ map_list of_array as₁)) ++ (block_row b ++ (25 ∷ [])) in
    let w₁ = subst (λ (l : List ℕ). Wrote o p ((4 ∷ 0 ∷ named x) ++ (i ∷ j ∷ k ∷ l))) (parts_row ps vs as₁ (block_row b ++ (25 ∷ []))) w in
    let w₂ = subst (λ (n : ℕ). Wrote o p ((4 ∷ 0 ∷ named x) ++ (n ∷ j ∷ k ∷ z))) (sym e) w₁ in
    let w₃ = subst (λ (n : ℕ). Wrote o p ((4 ∷ 0 ∷ named x) ++ (length ps ∷ n ∷ k ∷ z))) (sym f) w₂ in
    subst (λ (n : ℕ). Wrote o p ((4 ∷ 0 ∷ named x) ++ (length ps ∷ length vs ∷ n ∷ z))) (sym g) w₃

pub fn-did : {t r₁ r₂ r₃ r₄ r₅ r₆ r₇ : List ℕ} {i j k : ℕ} {o p₁ p₂ p₃ p₄ p₅ p₆ p₇ q₁ q₂ q₃ q₄ : Row} (x : Name) → AteName x t r₁ → Ate t_lp r₁ r₂ → Wrote o p₁ (4 ∷ 0 ∷ named x) → Wrote p₁ p₂ (0 ∷ 0 ∷ 0 ∷ []) → DidList 0 (pars_of (pieces gap r₂)) param_row r₂ r₃ i p₂ p₃ → Ate t_lc r₃ r₄ → DidList 1 (vars_in (pieces gap r₄)) (name_row true) r₄ r₅ j p₃ p₄ → DidList 1 (again arrs_step (pieces gap r₅)) array_row r₅ r₆ k p₄ p₅ → Did 0 (body (pieces gap r₆)) block_row r₆ r₇ p₅ p₆ → Wrote p₆ p₇ (25 ∷ []) → Patched p₇ q₁ p₁.len i → Patched q₁ q₂ (p₁.len + 1) j → Patched q₂ q₃ (p₁.len + 2) k → Patched q₃ q₄ (o.len + 1) (q₃.len - o.len - 2) → Did 0 (it_by h_fn (pieces gap t)) item_row t r₇ o q₄
fn-did {i = i} {j = j} {k = k} {p₁ = p₁} x n a w₁ w₂ ps b vs as₁ bs w₃ g₁ g₂ g₃ h =
    let i₁ = n.less in let i₂ = n.some in let i₃ = a.less in let i₄ = b.less in
    let u₁ = ps.did.within in let u₂ = vs.did.within in let u₃ = as₁.did.within in let u₄ = bs.within in
    let l₁ = w₁.long in let l₂ = w₂.long in let l₃ = w₃.long in
    let m₁ = g₁.long in let m₂ = g₂.long in let m₃ = g₃.long in let m₄ = h.long in
    let far = patched_3 (4 ∷ 0 ∷ named x) _ i j k p₁.len l₁ (wrote-more w₁ (wrote-more w₂ (wrote-more ps.did.wrote (wrote-more vs.did.wrote (wrote-more as₁.did.wrote (wrote-more bs.wrote w₃)))))) g₁ g₂ g₃ in
    let all = fn-wrote x ps.did.tree vs.did.tree as₁.did.tree bs.tree i j k ps.num vs.num as₁.num far in
    record {
      tree = i_fn (record { name = x; params = ps.did.tree; vars = vs.did.tree; arrs = as₁.did.tree; body = bs.tree });
      is = name-got x _ n ∙ eat-got t_lp _ a ∙ bind-got _ ps.did.tree _ ps.did.is ∙ eat-got t_lc _ b ∙ bind-got _ vs.did.tree _ vs.did.is ∙ bind-got _ as₁.did.tree _ as₁.did.is ∙ bind-got _ bs.tree _ bs.is;
      wrote = closed (i_fn (record { name = x; params = ps.did.tree; vars = vs.did.tree; arrs = as₁.did.tree; body = bs.tree })) _ refl all h;
      within = omega arith;
      on = omega arith;
    }

pub fn-no-name : (s : List Name) → is_no_name s ≡ true → it_by h_fn s ≡ fail
fn-no-name s e = name-fail s _ e
