-- The loop over the nodes of a body: what is left of them, and the pile, give what all of them give.
use Rattle.std.proofs.Common.{◌≡◌, ℕ, zero, suc, ◌+◌, ◌-◌, ◌<◌, ◌≤◌, min, Bool, true, false, eqb, List, [], ◌∷◌, sym, refl, ap, ◌∙◌, arith}
use mathlib.Core.Option.{Option, some, none}
use Rattle.language.specs.Syntax.{pick, Name, Kind, Fn, Prog}
use Rattle.language.specs.Meaning.{on_some}
use Rattle.language.specs.Checks.{ok_b}
use Rattle.rows.specs.Nodes.{Node, nodes_b, n_num, n_var, n_bin, n_and, n_or, n_join, n_un, n_idx, n_len, n_call, n_by, n_in, n_set, n_store, n_ex, n_out, n_if, n_else, n_fi, n_loop, n_while, n_again, n_ret, n_break, n_next, n_end, n_arg}
use Rattle.names.specs.Fold.{ctx, less, step, deep, run}
use Rattle.names.specs.Effects.{deeper}
use Rattle.names.specs.Pile.{Piled, Remains}
use Rattle.names.proofs.Folding.{fold_body}
use Rattle.names.proofs.NodeEffects.{tag_of}

less-is : (d : ℕ) → d - 1 ≡ less d
less-is zero = refl
less-is (suc d) = omega arith

-- in how many loops the next node stands
depth_is : (t : Node) (d : ℕ) → d + 1 < 18446744073709551616 → deeper (tag_of t) d ≡ deep t d
unfolding tag_of
depth_is (n_num n) d lt = refl
depth_is (n_var x) d lt = refl
depth_is (n_bin o) d lt = refl
depth_is n_and d lt = refl
depth_is n_or d lt = refl
depth_is n_join d lt = refl
depth_is (n_un o) d lt = refl
depth_is (n_idx x) d lt = refl
depth_is (n_len x) d lt = refl
depth_is (n_call n x) d lt = refl
depth_is (n_by n x) d lt = refl
depth_is n_in d lt = refl
depth_is (n_set x) d lt = refl
depth_is (n_store x) d lt = refl
depth_is n_ex d lt = refl
depth_is n_out d lt = refl
depth_is n_if d lt = refl
depth_is n_else d lt = refl
depth_is n_fi d lt = refl
depth_is n_loop d lt = omega arith
depth_is n_while d lt = refl
depth_is n_again d lt = less-is d
depth_is n_ret d lt = refl
depth_is n_break d lt = refl
depth_is n_next d lt = refl
depth_is n_end d lt = refl
depth_is (n_arg x) d lt = refl

pub deeper-le : (n d : ℕ) → deeper n d ≤ d + 1
deeper-le n d = go (eqb n 19) (eqb n 21)
  where
    go : (a b : Bool) → pick a (min (d + 1) 18446744073709551615) (pick b (d - 1) d) ≤ d + 1
    go true b = omega arith
    go false true = omega arith
    go false false = omega arith

abbrev is_some : Option (List Kind) → ℕ
is_some none = 0
is_some (some st) = 1

refuses : (b : Bool) → ◌≡◌ {A = Option (List Kind)} none (pick b (some []) none) → false ≡ b
refuses true e = let z : ◌≡◌ {A = ℕ} 0 1 = ap is_some e in absurd (omega arith)
refuses false e = refl

accepts : (b : Bool) {st : List Kind} → some st ≡ pick b (some []) none → true ≡ b
accepts true e = refl
accepts false e = let z : ◌≡◌ {A = ℕ} 1 0 = ap is_some e in absurd (omega arith)

-- of a body's nodes ts are left: run over the pile they give what all of them give
pub record Checking (w : List ℕ) (p : Prog) (f : Name) (g : Fn) (len d : ℕ) (ts : List Node) : Type 0 where
  pub pile : List Kind
  pub there : Piled w len pile
  pub is : run (ctx p f g) d ts pile ≡ run (ctx p f g) 0 (nodes_b g.body) []

pub checking_none : {w : List ℕ} (p : Prog) (f : Name) (g : Fn) → Checking w p f g 0 0 (nodes_b g.body)
checking_none p f g = record { pile = []; there = record { is = refl; room = omega arith }; is = refl }

module _ {w : List ℕ} {p : Prog} {f : Name} {g : Fn} {len d : ℕ} where
  -- all were passed
  pub checking_last : Checking w p f g len d [] → true ≡ ok_b p f g false g.body
  checking_last v = accepts (ok_b p f g false g.body) (v.is ∙ fold_body p f g g.body)

  module _ (t : Node) (ts : List Node) (v : Checking w p f g len d (t ∷ ts)) where
    pub checking_refused : ((st : List Kind) → Piled w len st → step (ctx p f g) d t st ≡ none) → false ≡ ok_b p f g false g.body
    checking_refused it = refuses (ok_b p f g false g.body) (sym (ap (λ (o : Option (List Kind)). on_some o (run (ctx p f g) (deep t d) ts)) (it v.pile v.there)) ∙ v.is ∙ fold_body p f g g.body)

    pub checking_more : {x : List ℕ} {m e r : ℕ} → d + 1 < 18446744073709551616 → r ≡ tag_of t → ((st : List Kind) → Piled w len st → Remains x (step (ctx p f g) d t st) m) → e ≡ deeper r d → Checking x p f g m e ts
    checking_more {x} {m} {e} lt et it ed =
        let k = it v.pile v.there in
        let de : e ≡ deep t d = ed ∙ ap (λ (y : ℕ). deeper y d) et ∙ depth_is t d lt in
        record {
          pile = k.pile;
          there = k.there;
          is = ap (λ (y : ℕ). run (ctx p f g) y ts k.pile) de ∙ sym (ap (λ (o : Option (List Kind)). on_some o (run (ctx p f g) (deep t d) ts)) k.is) ∙ v.is;
        }
