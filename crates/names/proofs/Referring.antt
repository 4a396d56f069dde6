-- Items passed one by one, and what each refers to.
use Rattle.std.proofs.Common.{◌≡◌, ℕ, Bool, true, false, ◌&&◌, eqb, List, [], ◌∷◌, length, get_or, drop, sym, refl, ap, ◌∙◌, append-nil, arith, eq-eqb, ne_eqb}
use mathlib.Core.Option.{Option, some, none}
use Rattle.language.specs.Syntax.{opt, Name, Param, Fn, Item, Prog}
use Rattle.language.specs.Meaning.{on_some, Top, top_of, all_tops, as_fn, first_file, w_main}
use Rattle.language.specs.Checks.{same_k, no_more, has_main, fn_named, same_ps}
use Rattle.rows.specs.Has.{Has, named}
use Rattle.rows.specs.Trees.{Local, list_row, map_list, of_param, local_row, item_row, file_row, prog_row}
use Rattle.rows.proofs.Having.{has_left}
use Rattle.std.specs.declared.option.Option as std
use Rattle.names.specs.declared.found.Spot.{Spot}
use Rattle.limits.specs.declared.entries.Entries.{Entries}
use Rattle.limits.specs.declared.entries.Locals.{Locals}
use Rattle.limits.specs.Entries.{Left}
use Rattle.std.specs.Prelude.{Some, None, is_some}
use Rattle.names.specs.Finds.{IsTop, FindsTop}
use Rattle.names.proofs.Resolving.{a-top}
use Rattle.names.specs.Fold.{fit}
use Rattle.names.specs.Kinds.{IsParams, FindsParams, item_params}
use Rattle.names.specs.Effects.{local_kinds}
use Rattle.names.specs.Resolved.{like, there}
use Rattle.names.proofs.NameKinds.{map-length, params_here}

-- whether all parameters have the kinds
params_fit : (qs rs : List Param) → fit (local_kinds (map_list of_param qs)) (local_kinds (map_list of_param rs)) ≡ same_ps qs rs
params_fit [] [] = refl
params_fit [] (r ∷ rs) = refl
params_fit (q ∷ qs) [] = refl
params_fit (q ∷ qs) (r ∷ rs) = ap (λ (b : Bool). same_k q.kind r.kind && b) (params_fit qs rs)

like-by : (o : Option Fn) (qs : List Param) → opt o false (λ h. same_ps qs h.params) ≡ opt (on_some o (λ h. some h.params)) false (same_ps qs)
like-by none qs = refl
like-by (some h) qs = refl

pub like-some : {row : List ℕ} {a b : Entries Locals} {r : Bool} (p : Prog) (f : Name) (qs : List Param) (x : Name) → Left local_row row a (map_list of_param qs) → IsParams row (on_some (fn_named p f x) (λ h. some h.params)) b → ((ls ms : List Local) → Left local_row row a ls → Left local_row row b ms → r ≡ fit (local_kinds ls) (local_kinds ms)) → r ≡ like p f qs x
like-some p f qs x l v it =
    it (map_list of_param qs) (map_list of_param v.params) l v.there
    ∙ params_fit qs v.params
    ∙ sym (like-by (fn_named p f x) qs ∙ ap (λ (o : Option (List Param)). opt o false (same_ps qs)) v.is)

pub like-none : (p : Prog) (f : Name) (qs : List Param) (x : Name) → on_some (fn_named p f x) (λ h. some h.params) ≡ none → false ≡ like p f qs x
like-none p f qs x e = sym (like-by (fn_named p f x) qs ∙ ap (λ (o : Option (List Param)). opt o false (same_ps qs)) e)

-- a function without parameters
pub plain-some : {row : List ℕ} {o : Option (List Param)} {n : Entries Locals} {c : ℕ} → c ≡ n.left → IsParams row o n → eqb c 0 ≡ opt o false no_more
plain-some {row} {o} {n} {c} ec v = go v.params (sym (map-length of_param v.params) ∙ v.there.long ∙ sym ec) ∙ sym (ap (λ (q : Option (List Param)). opt q false no_more) v.is)
  where
    go : (qs : List Param) → length qs ≡ c → eqb c 0 ≡ no_more qs
    go [] e = eq-eqb c 0 (sym e)
    go (q ∷ qs) e = ne_eqb c 0 (λ z. absurd (omega arith))

pub plain-none : {o : Option (List Param)} → o ≡ none → false ≡ opt o false no_more
plain-none e = sym (ap (λ (q : Option (List Param)). opt q false no_more) e)

-- main, of the first file
main-by : (o : Option Fn) → opt o false (λ g. no_more g.params) ≡ opt (on_some o (λ h. some h.params)) false no_more
main-by none = refl
main-by (some g) = refl

pub no_files : {w : List ℕ} {r : ℕ} (p : Prog) → w ≡ prog_row p → r ≡ get_or w 0 0 → r ≡ 0 → false ≡ has_main p
no_files [] e rd z = refl
no_files (f ∷ fs) e rd z = absurd (omega (arith, ap (λ (l : List ℕ). get_or l 0 0) e))

pub first-file-at : {w : List ℕ} {r : ℕ} (p : Prog) → w ≡ prog_row p → r ≡ get_or w 0 0 → (r ≡ 0 → ⊥) → Has w 1 (named (first_file p))
first-file-at [] e rd z = absurd (z (rd ∙ ap (λ (l : List ℕ). get_or l 0 0) e))
first-file-at {w} (f ∷ fs) e rd z =
    let body = length f.items ∷ list_row item_row f.items in
    let h : Has w 1 (list_row file_row (f ∷ fs)) = record { rest = []; is = ap (drop 1) e ∙ sym (append-nil (list_row file_row (f ∷ fs))); inside = omega (arith, ap length e) } in
    has_left (named f.name) body (has_left (file_row f) (list_row file_row fs) h)

pub main-none : (p : Prog) → top_of (all_tops p 0 0) (first_file p) w_main ≡ none → false ≡ has_main p
main-none p e = sym (ap (λ (o : Option Top). opt (on_some o as_fn) false (λ g. no_more g.params)) e)

pub main_some : {w : List ℕ} {s : Spot} {b : Bool} (p : Prog) (q : std.Option (Entries Locals)) → IsTop w s (top_of (all_tops p 0 0) (first_file p) w_main) → ((i : Item) → Has w s.item (item_row i) → FindsParams w (item_params i) q) → ((row : List ℕ) (o : Option (List Param)) → FindsParams row o q → b ≡ opt o false no_more) → b ≡ has_main p
main_some {w} p q v it plain = plain w _ (params_here v q it) ∙ sym (main-by (on_some (top_of (all_tops p 0 0) (first_file p) w_main) as_fn))

-- what was found stands there
pub found-there : (w : List ℕ) (ts : List Top) (y x : Name) (r : std.Option Spot) → FindsTop w ts y x r → is_some r ≡ there ts y x
found-there w ts y x None v = sym (ap (λ (o : Option Top). opt o false (λ t. true)) v)
found-there w ts y x (Some s) v =
    let u = v.top in
    let t = a-top u.file u.item _ _ u.not_use in
    sym (ap (λ (o : Option Top). opt o false (λ t. true)) (u.is ∙ t.1))

-- no kinds are the same as those of no more names
pub none_more : {c : ℕ} (ms : List Local) → length ms ≡ c → eqb c 0 ≡ fit [] (local_kinds ms)
none_more {c} [] e = eq-eqb c 0 (sym e)
none_more {c} (m ∷ ms) e = ne_eqb c 0 (λ z. absurd (omega arith))
