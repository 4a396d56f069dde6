-- A function's row: its head, its steps, and the two words that are known at its end.
use Rattle.std.proofs.Common.{◌≡◌, ℕ, ◌+◌, ◌-◌, ◌*◌, ◌/◌, ◌<◌, ◌≤◌, min, List, [], ◌∷◌, ◌++◌, length, map, get_or, take, drop, sym, refl, ap, ◌∙◌, subst, append_assoc, append-nil, arith, length-append, length-drop, get_or-take}
use Rattle.std.proofs.lemmas.List.{take_all, drop-drop}
use Rattle.std.specs.Simd.{first_chunks}
use Rattle.middle.proofs.Chunks.{by_chunks, behind-has}
use Rattle.rows.specs.declared.row.Row.{Row}
use Rattle.rows.specs.Row.{Wrote, Pushed}
use Rattle.rows.specs.Has.{Has}
use Rattle.rows.specs.Trees.{list_row}
use Rattle.rows.proofs.Writing.{pushed_more, pushed_none}
use Rattle.rows.proofs.Having.{has-at, has-next, has_left, has_as}
use Rattle.steps.specs.Steps.{Shape}
use Rattle.steps.specs.Fits.{Each}
use Rattle.generator.specs.Resolved.{Resolved}
use Rattle.generator.specs.ResolvedRows.{Routine, node_words, shape_words, routine_words, table_words, ResolvedProg, resolved_words}
use Rattle.generator.specs.StepRows.{step_words, fn_words, base_of, made}
use Rattle.generator.specs.Peak.{peak}
use Rattle.generator.specs.Core.{CoreRoutine}
use Rattle.stepper.specs.Bodies.{BodyDone, Filled, Good, RoutineIs, RoutineDone}
use Rattle.stepper.proofs.Targets.{wrote-put}
use Rattle.stepper.proofs.Counting.{node-long}

-- a head with two words that are filled in later
pub head-filled : {p p2 p3 p4 p5 : Row} (a b d n i j : ℕ) (row : List ℕ) → Pushed p p2 (a ∷ b ∷ 0 ∷ 0 ∷ []) → Pushed p2 p3 row → i ≡ min (p.len + 2) 18446744073709551615 → Filled p3 p4 i d → j ≡ min (p.len + 3) 18446744073709551615 → Filled p4 p5 j n → length p.words.now ≤ 18446744073709551615 → Pushed p p5 (a ∷ b ∷ d ∷ n ∷ row)
head-filled {p} {p2} {p3} {p4} {p5} a b d n i j row f h ei k ej l w =
    let all : Pushed p p3 (a ∷ b ∷ 0 ∷ 0 ∷ row) = pushed_more f h in
    record {
      wrote = λ room.
          let w3 : Wrote p p3 (a ∷ b ∷ 0 ∷ 0 ∷ row) = all.wrote room in
          let long = w3.long in
          let w4 : Wrote p p4 (a ∷ b ∷ d ∷ 0 ∷ row) = wrote-put 2 i d (omega arith) w3 (k.patched (omega arith)) in
          let long4 = w4.long in
          wrote-put 3 j n (omega arith) w4 (l.patched (omega arith));
      kept = l.lent.kept ∙ (k.lent.kept ∙ all.kept);
      same = l.lent.same ∙ (k.lent.same ∙ all.same);
    }

nodes-long : (vs : List Resolved) → length (list_row node_words vs) ≡ 3 * length vs
nodes-long [] = refl
nodes-long (v ∷ vs) = omega (arith, length-append (node_words v) (list_row node_words vs), node-long v, nodes-long vs)

-- what stands first in the row, if it is a function that has no arrays
pub record Head (row : List ℕ) (g : Routine) : Type 0 where
  pub params : get_or row 0 0 ≡ g.params
  pub vars : get_or row 2 0 ≡ g.vars
  pub count : get_or row 4 0 ≡ length g.nodes
  pub rest : List ℕ
  pub nodes : drop 5 row ≡ list_row node_words g.nodes ++ rest
  pub long : length (routine_words g) ≡ 5 + 3 * length g.nodes
  pub enough : 5 + 3 * length g.nodes ≤ length row

no_arrays : (own : List Shape) (row : List ℕ) → own ≡ [] → list_row shape_words own ++ row ≡ row
no_arrays own row e = ap (λ o. list_row shape_words o ++ row) e

pub head-is : (row : List ℕ) (g : Routine) → Has row 0 (routine_words g) → g.own ≡ [] → Head row g
head-is row g h e =
    let none = no_arrays g.own (list_row node_words g.nodes) e in
    let nodes : Has row 5 (list_row node_words g.nodes) = has_as none (has-next (has-next (has-next (has-next (has-next h))))) in
    let long : length (routine_words g) ≡ 5 + 3 * length g.nodes = omega (arith, ap length none, nodes-long g.nodes) in
    record {
      params = has-at 0 h (omega arith);
      vars = has-at 2 h (omega arith);
      count = has-at 4 h (omega arith);
      rest = nodes.rest;
      nodes = nodes.is;
      long = long;
      enough = let i = h.inside in omega arith;
    }

-- the functions of which the row is written, and those that are left
pub record Passed (row : List ℕ) (all : List Routine) (words i : ℕ) (o p : Row) : Type 0 where
  pub done : List Routine
  pub rest : List Routine
  pub whole : done ++ rest ≡ all
  pub left : length rest + i ≡ length all
  pub has : Has row 0 (list_row routine_words rest)
  pub short : length row < 1073741824
  pub good : Each (λ g. Good g words) rest
  pub pushed : Pushed o p (list_row (λ g. fn_words (made g)) done)

row_more : (gs : List Routine) (g : Routine) → list_row (λ g. fn_words (made g)) (gs ++ (g ∷ [])) ≡ list_row (λ g. fn_words (made g)) gs ++ fn_words (made g)
row_more [] g = append-nil (fn_words (made g))
row_more (h ∷ gs) g = ap (λ r. fn_words (made h) ++ r) (row_more gs g) ∙ sym (append_assoc (fn_words (made h)) (list_row (λ g. fn_words (made g)) gs) (fn_words (made g)))

pub passed_first : (row : List ℕ) (all : List Routine) (words : ℕ) (o : Row) → Has row 0 (list_row routine_words all) → Each (λ g. Good g words) all → length row < 1073741824 → Passed row all words 0 o o
passed_first row all words o h g short = record { done = []; rest = all; whole = refl; left = omega arith; has = h; short = short; good = g; pushed = pushed_none o }

more : (row r : List ℕ) (all : List Routine) (words i : ℕ) (o p q : Row) (done rest : List Routine) → done ++ rest ≡ all → length rest + i ≡ length all → Has row 0 (list_row routine_words rest) → length row < 1073741824 → Each (λ g. Good g words) rest → Pushed o p (list_row (λ g. fn_words (made g)) done) → i < length all → RoutineDone row words p r q → Passed r all words (i + 1) o q
more row r all words i o p q done [] whole left has short good pushed lt d = absurd (let k : ⊥ = omega arith in k)
more row r all words i o p q done (g ∷ rest) whole left has short good pushed lt d =
    let one = d.routine g (has_left (routine_words g) (list_row routine_words rest) has) good.0 short in
    record {
      done = done ++ (g ∷ []);
      rest = rest;
      whole = append_assoc done (g ∷ []) rest ∙ whole;
      left = omega arith;
      has = behind-has (routine_words g) (list_row routine_words rest) has one.behind;
      short = omega (arith, ap length one.behind, length-drop (length (routine_words g)) row);
      good = good.1;
      pushed = subst (Pushed o q) (sym (row_more done g)) (pushed_more pushed one.pushed);
    }

pub passed_more : {row r : List ℕ} {all : List Routine} {words i : ℕ} {o p q : Row} → Passed row all words i o p → i < length all → RoutineDone row words p r q → Passed r all words (i + 1) o q
passed_more {row} {r} {all} {words} {i} {o} {p} {q} s lt d = more row r all words i o p q s.done s.rest s.whole s.left s.has s.short s.good s.pushed lt d

stop : (all done rest : List Routine) (o p : Row) → done ++ rest ≡ all → length rest ≤ 0 → Pushed o p (list_row (λ g. fn_words (made g)) done) → Pushed o p (list_row (λ g. fn_words (made g)) all)
stop all done (g ∷ rest) o p e l f = absurd (let k : ⊥ = omega arith in k)
stop all done [] o p e l f = subst (λ gs. Pushed o p (list_row (λ g. fn_words (made g)) gs)) (sym (append-nil done) ∙ e) f

pub passed-last : {row : List ℕ} {all : List Routine} {words i : ℕ} {o p : Row} → Passed row all words i o p → length all ≤ i → Pushed o p (list_row (λ g. fn_words (made g)) all)
passed-last {row} {all} {words} {i} {o} {p} s h = stop all s.done s.rest o p s.whole (let a = s.left in omega arith) s.pushed

-- the whole program's row
pub record Whole (row r : List ℕ) (n : ℕ) (p : ResolvedProg) : Type 0 where
  pub count : n ≡ length p.routines
  pub has : Has r 0 (list_row routine_words p.routines)

pub whole_is : (row head r : List ℕ) (n : ℕ) (p : ResolvedProg) → row ≡ resolved_words p → head ≡ take 3 row → n ≡ get_or head 2 0 → r ≡ drop 3 row → Whole row r n p
whole_is row head r n p e f g h =
    let tail = length p.tables ∷ list_row table_words p.tables in
    let is : r ≡ list_row routine_words p.routines ++ tail = h ∙ ap (drop 3) e in
    record {
      count = g ∙ ap (λ w. get_or w 2 0) (f ∙ ap (take 3) e);
      has = record { rest = tail; is = is; inside = omega (arith, ap length is, length-append (list_row routine_words p.routines) tail) };
    }

pub all-good : (gs : List Routine) (words : ℕ) → Each (λ g. CoreRoutine g × (g.own ≡ [])) gs → Each (λ g. peak (base_of g) g.nodes [] (base_of g) ≤ base_of g + words) gs → Each (λ g. base_of g + words + 2 < 4294967296) gs → Each (λ g. Good g words) gs
all-good [] words a b c = tt
all-good (g ∷ gs) words a b c = (record { own = a.0.1; fit = record { core = a.0.0; pile = b.0; small = c.0 } }, all-good gs words a.1 b.1 c.1)

-- what the code has read and made of a function
pub record Steps (row : List ℕ) (words : ℕ) (p p2 p3 p4 p5 : Row) (r : List ℕ) : Type 0 where
  pub head : List ℕ
  pub rest : List ℕ
  pub chunks : List (List ℕ)
  pub nodes : List (List ℕ)
  pub count : ℕ
  pub base : ℕ
  pub places : ℕ
  pub steps : ℕ
  pub third_word : ℕ
  pub fourth_word : ℕ
  pub head_is : head ≡ take 5 row
  pub rest_is : rest ≡ drop 5 row
  pub chunks_is : chunks ≡ first_chunks 3 (length rest / 3) rest
  pub chunks_long : length chunks ≡ length rest / 3
  pub count_is : count ≡ min (length chunks) (get_or head 4 0)
  pub nodes_is : nodes ≡ take count chunks
  pub base_is : base ≡ min (get_or head 0 0 + get_or head 2 0) 4294967295
  pub head_pushed : Pushed p p2 (get_or head 0 0 ∷ get_or head 2 0 ∷ 0 ∷ 0 ∷ [])
  pub body : BodyDone nodes base words p2 places steps p3
  pub third_is : third_word ≡ min (p.len + 2) 18446744073709551615
  pub third_filled : Filled p3 p4 third_word places
  pub last_is : fourth_word ≡ min (p.len + 3) 18446744073709551615
  pub last_filled : Filled p4 p5 fourth_word steps
  pub behind : r ≡ take (length rest - 3 * count) (drop (3 * count) rest)
  pub fits : length p.words.now ≤ 18446744073709551615

word-of : (row head : List ℕ) (k : ℕ) → head ≡ take 5 row → k < 5 → get_or head k 0 ≡ get_or row k 0
word-of row head k e l = ap (λ w. get_or w k 0) e ∙ get_or-take 5 row k 0 l

pub routine-is : {p p2 p3 p4 p5 : Row} (row : List ℕ) (words : ℕ) (r : List ℕ) → Steps row words p p2 p3 p4 p5 r → (g : Routine) → Has row 0 (routine_words g) → Good g words → length row < 1073741824 → RoutineIs g row r p p5
routine-is {p} {p2} {p3} {p4} {p5} row words r s g h good short =
    let hd = head-is row g h good.own in
    let many = hd.enough in
    let long = hd.long in
    let small = good.fit.small in
    let a : get_or s.head 0 0 ≡ g.params = word-of row s.head 0 s.head_is (omega arith) ∙ hd.params in
    let v : get_or s.head 2 0 ≡ g.vars = word-of row s.head 2 s.head_is (omega arith) ∙ hd.vars in
    let n : get_or s.head 4 0 ≡ length g.nodes = word-of row s.head 4 s.head_is (omega arith) ∙ hd.count in
    let b : s.base ≡ base_of g = let k = s.base_is in omega arith in
    let rl : length s.rest ≡ length row - 5 = omega (arith, ap length s.rest_is, length-drop 5 row) in
    let m : s.count ≡ length g.nodes = let k = s.count_is in let l = s.chunks_long in omega arith in
    let ns : s.nodes ≡ map node_words g.nodes =
    s.nodes_is ∙ (ap (λ k. take k s.chunks) m ∙ (ap (take (length g.nodes)) s.chunks_is ∙ by_chunks node_words 3 node-long g.nodes s.rest hd.rest (length s.rest / 3) (s.rest_is ∙ hd.nodes) (omega arith))) in
    let done : BodyDone s.nodes (base_of g) words p2 s.places s.steps p3 = subst (λ k. BodyDone s.nodes k words p2 s.places s.steps p3) b s.body in
    let is = done.body g.nodes ns good.fit (omega arith) in
    let d = is.places in
    let t = is.steps in
    record {
      behind =
          s.behind
          ∙ (take_all (length s.rest - 3 * s.count) (drop (3 * s.count) s.rest) (omega (arith, length-drop (3 * s.count) s.rest))
          ∙ (ap (λ l. drop (3 * s.count) l) s.rest_is ∙ (drop-drop (3 * s.count) 5 row ∙ ap (λ k. drop k row) (let e : 5 + 3 * s.count ≡ length (routine_words g) = omega arith in e))));
      pushed = subst (Pushed p p5) (cc) (head-filled (get_or s.head 0 0) (get_or s.head 2 0) s.places s.steps s.third_word s.fourth_word (list_row step_words (made g).code) s.head_pushed is.pushed s.third_is s.third_filled s.last_is s.last_filled s.fits);
    }
