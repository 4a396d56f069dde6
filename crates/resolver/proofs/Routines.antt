-- A function's words: its head, its own arrays, its nodes.
use Rattle.std.proofs.Common.{◌≡◌, ℕ, suc, ◌-◌, ◌<◌, ◌≤◌, true, leb, List, [], ◌∷◌, length, sym, refl, ap, ◌∙◌, arith, length-append, leb-true}
use Rattle.language.specs.Syntax.{Name, Arr, Fn, Prog}
use Rattle.language.specs.Checks.{sizes, ok_fn}
use Rattle.rows.specs.declared.row.Row.{Row}
use Rattle.rows.specs.Row.{Pushed}
use Rattle.rows.specs.Has.{Has}
use Rattle.rows.specs.Nodes.{Node, node_row, nodes_row, nodes_b}
use Rattle.rows.specs.Trees.{list_row}
use Rattle.rows.proofs.Writing.{pushed_more}
use Rattle.steps.specs.Generate.{words_of, arrays_of, slots_from, slots_of, shapes_of, scope}
use Rattle.steps.proofs.Checked.{and-true}
use Rattle.generator.specs.Resolved.{resolve_nodes}
use Rattle.generator.specs.ResolvedRows.{node_words, shape_words, routine_words, resolve_fn}
use Rattle.limits.proofs.BodyLaws.{node-long}
use Rattle.resolver.proofs.Locals.{param_arrays}
use Rattle.resolver.proofs.Nodes.{nodes-length}
use Rattle.resolver.proofs.Walking.{pushed_as}

-- the bounds of the checks
pub record Few (g : Fn) : Type 0 where
  pub params : length g.params ≤ 8
  pub vars : length g.vars ≤ 64
  pub arrays : length g.arrs ≤ 16
  pub sized : sizes 4096 g.arrs ≡ true

pub few-of : (p : Prog) (f : Name) (g : Fn) → ok_fn p f g ≡ true → Few g
few-of p f g e =
    let a = and-true (leb (length g.params) 8) _ e in
    let b = and-true (leb (length g.vars) 64) _ a.1 in
    let c = and-true (leb (length g.arrs) 16) _ b.1 in
    record { params = leb-true (length g.params) 8 a.0; vars = leb-true (length g.vars) 64 b.0; arrays = leb-true (length g.arrs) 16 c.0; sized = (and-true (sizes 4096 g.arrs) _ c.1).0 }

nodes-few : (ns : List Node) → length ns ≤ length (nodes_row ns)
nodes-few [] = omega arith
nodes-few (t ∷ ts) = omega (arith, nodes-few ts, node-long t, length-append (node_row t) (nodes_row ts))

pub few-nodes : {w : List ℕ} {a : ℕ} (ns : List Node) → length w < 4294967296 → Has w a (nodes_row ns) → length ns < 4294967296
few-nodes ns l h = omega (arith, l, h.inside, nodes-few ns)

shapes-length : (bs : List Arr) → length (shapes_of bs) ≡ length bs
shapes-length [] = refl
shapes-length (b ∷ bs) = ap suc (shapes-length bs)

five : {a b c d e v w x y z : ℕ} → a ≡ v → b ≡ w → c ≡ x → d ≡ y → e ≡ z → (a ∷ b ∷ c ∷ d ∷ e ∷ []) ≡ (v ∷ w ∷ x ∷ y ∷ z ∷ [])
five ea eb ec ed ee = rw (ea, eb, ec, ed, ee) refl

-- each of the five words is what is counted, if that is a word
pub routine-pushed : {o q r s : Row} {a b c d e m k n : ℕ} {hp hv ha : ℕ} (p : Prog) (f : Name) (g : Fn) → Few g → hp ≡ length g.params → hv ≡ length g.vars → ha ≡ length g.arrs → length (nodes_b g.body) < 4294967296 → m ≡ words_of (slots_from g.params [] []) → k ≡ hp - m → n ≡ length (nodes_b g.body) → (m < 4294967296 → a ≡ m) → (k < 4294967296 → b ≡ k) → (hv < 4294967296 → c ≡ hv) → (ha < 4294967296 → d ≡ ha) → (n < 4294967296 → e ≡ n) → Pushed o q (a ∷ b ∷ c ∷ d ∷ e ∷ []) → Pushed q r (list_row shape_words (shapes_of g.arrs)) → Pushed r s (list_row node_words (resolve_nodes (scope p f (slots_of g)) (nodes_b g.body))) → Pushed o s (routine_words (resolve_fn p f g))
routine-pushed {m = m} {k = k} {n = n} {hp = hp} p f g few ep ev ea ln em ek en wa wb wc wd we first own nodes =
    let qs = slots_from g.params [] [] in
    let pa = param_arrays g.params in
    let hp1 = ep in
    let fp = few.params in
    let fv = few.vars in
    let fa = few.arrays in
    let ka : k ≡ arrays_of qs = omega arith in
    let one = wa (omega arith) ∙ em in
    let two = wb (omega arith) ∙ ka in
    let three = wc (omega arith) ∙ ev in
    let four = wd (omega arith) ∙ (ea ∙ sym (shapes-length g.arrs)) in
    let last = we (omega arith) ∙ (en ∙ sym (nodes-length (scope p f (slots_of g)) (nodes_b g.body))) in
    pushed_more (pushed_as (five one two three four last) first) (pushed_more own nodes)
