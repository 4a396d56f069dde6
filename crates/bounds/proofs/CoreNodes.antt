-- The resolved nodes of a program of stage 0.
use mathlib.Core.Path.{◌≡◌, refl, ap}
use mathlib.Core.Bool.{Bool, true, false}
use mathlib.Core.List.{List, [], ◌∷◌}
use mathlib.Core.Option.{Option, some, none}
use Prim.Native.Nat.{ℕ, ◌<◌}
use native.Mathlib.Omega.{arith}
use lib.ListN.{length}
use borrow.Author.Tests.{lt-ltb}
use Rattle.language.specs.Syntax.{opt, Name, Expr, num, var, bin, un, and1, or1, idx, len, call, by_table, input, Exprs, no, and_then, Stmt, set1, store1, ex1, out1, if1, while1, ret1, break1, next1, Block, end, seq1, Fn, Prog, stage_e, stage_es, stage_s, stage_b}
use Rattle.language.specs.Meaning.{on_some, as_word, as_arr, Top, all_tops, as_fn, resolve}
use Rattle.rows.specs.Nodes.{Node, n_bin, n_and, n_or, n_join, n_un, n_call, n_set, n_ex, n_out, n_if, n_else, n_fi, n_while, n_again, n_ret, n_end, nodes_e, nodes_es, nodes_s, nodes_bs, count}
use Rattle.steps.specs.Steps.{o_top}
use Rattle.steps.specs.Generate.{Scope, Ref, r_word, r_arr, find, ref_arr, gen_arr, arrays_of, slots_of, shapes_of, scope}
use Rattle.steps.specs.Fits.{Each}
use Rattle.steps.proofs.Checked.{AllT, all-resolve}
use Rattle.steps.proofs.Fits.{find-arr}
use Rattle.steps.proofs.FitsHold.{slot_count}
use Rattle.steps.proofs.Variables.{find-lt}
use Rattle.generator.specs.Resolved.{resolve_nodes, read_name, read_top, read_ref, pass_name, copy_ref, set_name, set_top, set_ref}
use Rattle.generator.specs.ResolvedRows.{resolve_fn}
use Rattle.generator.specs.StepRows.{base_of}
use Rattle.generator.specs.Core.{core, CoreRoutine}
use Rattle.bounds.specs.Bounds.{CoreNodes}
use Rattle.bounds.proofs.Made.{base-is}
use Rattle.bounds.proofs.CoreTops.{CoreFunction, CoreTop, of-program, each_sorted}

-- a scope with no arrays, whose words stand below b
module _ (Γ : Scope) (b : ℕ) (low : (x : Name) (k : ℕ) → find Γ.slots x 0 0 ≡ some (r_word k) → k < b) (no_arr : (x : Name) → gen_arr Γ x ≡ none) where
  abbrev AllCore : List Node → Type 0
  AllCore ns = Each (λ v. core b v ≡ true) (resolve_nodes Γ ns)

  read_core : (x : Name) → core b (read_name Γ x) ≡ true
  read_core x = go (find Γ.slots x 0 0) refl (on_some (Γ.top x) as_word)
    where
      go : (o : Option Ref) → find Γ.slots x 0 0 ≡ o → (w : Option ℕ) → core b (opt o (read_top w) read_ref) ≡ true
      go none e none = refl
      go none e (some i) = refl
      go (some (r_word k)) e w = lt-ltb k b (low x k e)
      go (some (r_arr j u)) e w = refl

  pass_core : (x : Name) → core b (pass_name Γ x) ≡ true
  pass_core x = rw (no_arr x) (go (find Γ.slots x 0 0) (on_some (Γ.top x) as_word))
    where
      go : (o : Option Ref) (w : Option ℕ) → core b (opt o (read_top w) copy_ref) ≡ true
      go none none = refl
      go none (some i) = refl
      go (some (r_word k)) w = refl
      go (some (r_arr j u)) w = refl

  set_core : (x : Name) → core b (set_name Γ x) ≡ true
  set_core x = go (find Γ.slots x 0 0) (on_some (Γ.top x) as_word)
    where
      go : (o : Option Ref) (w : Option ℕ) → core b (opt o (set_top w) set_ref) ≡ true
      go none none = refl
      go none (some i) = refl
      go (some (r_word k)) w = refl
      go (some (r_arr j u)) w = refl

  mutual
    core_e : (a : Bool) (e : Expr) (ns : List Node) → stage_e e ≡ 0 → AllCore ns → AllCore (nodes_e a e ns)
    core_e a (num n) ns h k = (refl, k)
    core_e true (var x) ns h k = (pass_core x, k)
    core_e false (var x) ns h k = (read_core x, k)
    core_e a (bin o e f) ns h k = core_e false e (nodes_e false f (n_bin o ∷ ns)) (omega (arith, h)) (core_e false f (n_bin o ∷ ns) (omega (arith, h)) (refl, k))
    core_e a (un o e) ns h k = core_e false e (n_un o ∷ ns) h (refl, k)
    core_e a (and1 e f) ns h k = core_e false e (n_and ∷ nodes_e false f (n_join ∷ ns)) (omega (arith, h)) (refl, core_e false f (n_join ∷ ns) (omega (arith, h)) (refl, k))
    core_e a (or1 e f) ns h k = core_e false e (n_or ∷ nodes_e false f (n_join ∷ ns)) (omega (arith, h)) (refl, core_e false f (n_join ∷ ns) (omega (arith, h)) (refl, k))
    core_e a (idx x e) ns h k = absurd (let z : ⊥ = omega arith in z)
    core_e a (len x) ns h k = absurd (let z : ⊥ = omega arith in z)
    core_e a (call x es) ns h k = core_es es (n_call (count es) x ∷ ns) h (refl, k)
    core_e a (by_table x e es) ns h k = absurd (let z : ⊥ = omega arith in z)
    core_e a input ns h k = absurd (let z : ⊥ = omega arith in z)

    core_es : (es : Exprs) (ns : List Node) → stage_es es ≡ 0 → AllCore ns → AllCore (nodes_es es ns)
    core_es no ns h k = k
    core_es (and_then e es) ns h k = core_e true e (nodes_es es ns) (omega (arith, h)) (core_es es ns (omega (arith, h)) k)

  mutual
    core_s : (s : Stmt) (ns : List Node) → stage_s s ≡ 0 → AllCore ns → AllCore (nodes_s s ns)
    core_s (set1 x e) ns h k = core_e false e (n_set x ∷ ns) h (set_core x, k)
    core_s (store1 x i e) ns h k = absurd (let z : ⊥ = omega arith in z)
    core_s (ex1 e) ns h k = core_e false e (n_ex ∷ ns) h (refl, k)
    core_s (out1 e) ns h k = core_e false e (n_out ∷ ns) h (refl, k)
    core_s (if1 e c d) ns h k = core_e false e (n_if ∷ nodes_bs c (n_else ∷ nodes_bs d (n_fi ∷ ns))) (omega (arith, h)) (refl, core_b c (n_else ∷ nodes_bs d (n_fi ∷ ns)) (omega (arith, h)) (refl, core_b d (n_fi ∷ ns) (omega (arith, h)) (refl, k)))
    core_s (while1 e c) ns h k = (refl, core_e false e (n_while ∷ nodes_bs c (n_again ∷ ns)) (omega (arith, h)) (refl, core_b c (n_again ∷ ns) (omega (arith, h)) (refl, k)))
    core_s (ret1 e) ns h k = core_e false e (n_ret ∷ ns) h (refl, k)
    core_s break1 ns h k = (refl, k)
    core_s next1 ns h k = (refl, k)

    core_b : (c : Block) (ns : List Node) → stage_b c ≡ 0 → AllCore ns → AllCore (nodes_bs c ns)
    core_b end ns h k = k
    core_b (seq1 s c) ns h k = core_s s (nodes_bs c ns) (omega (arith, h)) (core_b c ns (omega (arith, h)) k)

module _ (p : Prog) (all : AllT CoreTop (all_tops p 0 0)) (f : Name) (g : Fn) (fact : CoreFunction g) where
  abbrev Γ : Scope
  Γ = scope p f (slots_of g)

  own_low : (x : Name) (k : ℕ) → find (slots_of g) x 0 0 ≡ some (r_word k) → k < base_of (resolve_fn p f g)
  own_low x k e = omega (arith, find-lt (slots_of g) x 0 0 k e, base-is p f g)

  no_own : arrays_of (slots_of g) ≡ 0
  no_own = omega (arith, (slot_count g.params g.vars g.arrs).1, fact.params, ap (λ as₁. length (shapes_of as₁)) fact.own)

  no_arrays : (x : Name) → gen_arr Γ x ≡ none
  no_arrays x = own (find (slots_of g) x 0 0) refl
    where
      at_top : (o : Option Top) → resolve p f x ≡ o → on_some (on_some o as_arr) (λ a. some (o_top a)) ≡ none
      at_top none e = refl
      at_top (some t) e = rw (all-resolve p f x t all e).no_arr refl

      own : (o : Option Ref) → find (slots_of g) x 0 0 ≡ o → opt o (on_some (on_some (resolve p f x) as_arr) (λ a. some (o_top a))) ref_arr ≡ none
      own none e = at_top (resolve p f x) refl
      own (some (r_word k)) e = refl
      own (some (r_arr j u)) e = absurd (let z : ⊥ = omega (arith, find-arr (slots_of g) x 0 0 j u e, no_own) in z)

  core_routine : CoreRoutine (resolve_fn p f g) × ((resolve_fn p f g).own ≡ [])
  core_routine = (core_b Γ (base_of (resolve_fn p f g)) own_low no_arrays g.body (n_end ∷ []) fact.body (refl, tt), ap shapes_of fact.own)

pub core-nodes : CoreNodes
core-nodes t p reads low =
    let all : AllT CoreTop (all_tops p 0 0) = of-program p low in
    each_sorted as_fn (λ u g. resolve_fn p u.file g) (λ r. CoreRoutine r × (r.own ≡ [])) CoreTop (λ u g q e. core_routine p all u.file g (q.function g e)) (all_tops p 0 0) all
