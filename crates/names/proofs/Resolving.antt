-- A name's own file first, then the one that it is used from.
use Rattle.std.proofs.Common.{◌≡◌, ℕ, false, eqb, List, Some, None, sym, refl, ap, ◌∙◌, arith}
use mathlib.Core.Option.{Option, some, none}
use Rattle.std.specs.declared.option.Option as std
use Rattle.language.specs.Syntax.{opt, Name, Item, i_word, i_arr, i_data, i_table, i_fn, i_use, Prog}
use Rattle.language.specs.Meaning.{on_some, or_else, Top, all_tops, top_of, used_in, items_of, resolve, as_fn, as_table, is_word, is_arr, is_table, is_fn}
use Rattle.steps.specs.Generate.{pos, number}
use Rattle.rows.specs.Trees.{item_no}
use Rattle.names.specs.declared.found.Spot.{Spot}
use Rattle.names.specs.Finds.{top_in, IsTop, TopAt, ResolvedAt, FindsTop, Resolves}

pub a-top : (f : Name) (i : Item) (w a : ℕ) → eqb (item_no i) 5 ≡ false → (t : Top) × (top_in f i w a ≡ some t)
a-top f (i_word x) w a n = (record { file = f; name = x; is = is_word w }, refl)
a-top f (i_arr r) w a n = (record { file = f; name = r.name; is = is_arr a r.wide }, refl)
a-top f (i_data d x ns) w a n = (record { file = f; name = x; is = is_arr a d }, refl)
a-top f (i_table x fs) w a n = (record { file = f; name = x; is = is_table fs }, refl)
a-top f (i_fn g) w a n = (record { file = f; name = g.name; is = is_fn g }, refl)
a-top f (i_use x ys) w a n = let y : ◌≡◌ {A = ℕ} 0 1 = cc in absurd (omega arith)

top_to : {w : List ℕ} {s : Spot} {o q : Option Top} → q ≡ o → IsTop w s o → IsTop w s q
top_to e v = record { file = v.file; item = v.item; at_file = v.at_file; at_item = v.at_item; is = e ∙ v.is; not_use = v.not_use }

-- the number of a name by what was found in its file
number_by : {A : Type 0} (is : Top → Option A) (p : Prog) (f x : Name) (o : Option Top) → top_of (all_tops p 0 0) f x ≡ o → number is p f x ≡ opt o (opt (used_in (items_of p f) x) 0 (λ g. pos is (all_tops p 0 0) g x)) (λ t. pos is (all_tops p 0 0) f x)
number_by is p f x o e = ap (λ (q : Option Top). opt q (opt (used_in (items_of p f) x) 0 (λ g. pos is (all_tops p 0 0) g x)) (λ t. pos is (all_tops p 0 0) f x)) e

pub resolve-own : {w : List ℕ} {s : Spot} (p : Prog) (f x : Name) → TopAt w (all_tops p 0 0) f x s → ResolvedAt w p f x s
resolve-own {w} {s} p f x v =
    let u = v.top in
    let t = a-top u.file u.item s.words s.arrays u.not_use in
    let k = u.is ∙ t.1 in
    record {
      top = top_to (ap (λ (o : Option Top). or_else o (on_some (used_in (items_of p f) x) (λ g. top_of (all_tops p 0 0) g x))) k ∙ sym k) u;
      fns = number_by as_fn p f x (some t.0) k ∙ v.fns;
      tables = number_by as_table p f x (some t.0) k ∙ v.tables;
    }

module _ (p : Prog) (f x : Name) (out : top_of (all_tops p 0 0) f x ≡ none) where
  by_use : resolve p f x ≡ on_some (used_in (items_of p f) x) (λ g. top_of (all_tops p 0 0) g x)
  by_use = ap (λ (o : Option Top). or_else o (on_some (used_in (items_of p f) x) (λ g. top_of (all_tops p 0 0) g x))) out

  pub resolve_used : (w : List ℕ) (y : Name) → used_in (items_of p f) x ≡ some y → (r : std.Option Spot) → FindsTop w (all_tops p 0 0) y x r → Resolves w p f x r
  resolve_used w y k (Some s) v =
      record {
        top = top_to (by_use ∙ ap (λ (o : Option Name). on_some o (λ g. top_of (all_tops p 0 0) g x)) k) v.top;
        fns = number_by as_fn p f x none out ∙ ap (λ (o : Option Name). opt o 0 (λ g. pos as_fn (all_tops p 0 0) g x)) k ∙ v.fns;
        tables = number_by as_table p f x none out ∙ ap (λ (o : Option Name). opt o 0 (λ g. pos as_table (all_tops p 0 0) g x)) k ∙ v.tables;
      }
  resolve_used w y k None v = by_use ∙ ap (λ (o : Option Name). on_some o (λ g. top_of (all_tops p 0 0) g x)) k ∙ v

  pub resolve_none : used_in (items_of p f) x ≡ none → resolve p f x ≡ none
  resolve_none u = by_use ∙ ap (λ (o : Option Name). on_some o (λ g. top_of (all_tops p 0 0) g x)) u
