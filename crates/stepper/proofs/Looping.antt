-- The loop over a function's nodes.
use Rattle.std.proofs.Common.{◌≡◌, ℕ, ◌+◌, ◌*◌, ◌<◌, ◌≤◌, min, max, true, List, [], ◌∷◌, length, map, drop, get_or, sym, refl, ap, ◌∙◌, subst, arith}
use Rattle.std.proofs.lemmas.List.{length-map}
use Rattle.middle.proofs.Chunks.{next-is}
use Rattle.rows.specs.declared.row.Row.{Row}
use Rattle.rows.proofs.Writing.{wrote_none}
use Rattle.steps.specs.Fits.{Each}
use Rattle.generator.specs.Resolved.{Resolved}
use Rattle.generator.specs.ResolvedRows.{node_words}
use Rattle.generator.specs.Emit.{Entry, Marks, marks, above, emit, run}
use Rattle.generator.specs.Peak.{piled, peak}
use Rattle.generator.specs.Core.{core}
use Rattle.stepper.specs.declared.node.Node.{Node}
use Rattle.stepper.specs.declared.writer.Writer.{Writer}
use Rattle.stepper.specs.Nodes.{meant, counted}
use Rattle.stepper.specs.Swapped.{Lent}
use Rattle.stepper.specs.Stands.{Stands, Turned}
use Rattle.stepper.specs.Bodies.{Fit, BodyIs, BodyDone}
use Rattle.stepper.proofs.Targets.{steps-long}
use Rattle.stepper.proofs.Counting.{Words, words-above, words-piled, piled-long, piled-deep, emit-few, peak-high}

abbrev start : Marks
start = marks [] 0 0 []

-- where the loop stands: the marks, the values that are counted, the nodes that are left
pub record Reached (nodes : List (List ℕ)) (b : ℕ) (vs : List Resolved) (i waiting places : ℕ) (w : Writer) (o : Row) : Type 0 where
  pub z : Marks
  pub es : List Entry
  pub rest : List Resolved
  pub runs : run b rest z ≡ run b vs start
  pub peaks : peak b rest es places ≡ peak b vs [] b
  pub has : drop i nodes ≡ map node_words rest
  pub left : length rest + i ≡ length vs
  pub core : Each (λ v. core b v ≡ true) rest
  pub stands : Stands b z w o
  pub counts : waiting ≡ length es
  pub words : Words es
  pub deep : length z.pile ≤ length es
  pub high : b + length es ≤ places
  pub few : length z.out ≤ 4 * i

pub reached_first : (nodes : List (List ℕ)) (b : ℕ) (vs : List Resolved) (w : Writer) → w.first ≡ w.out.now.len → w.base ≡ b → w.height ≡ 0 → w.waiting ≡ 0 → w.head ≡ 0 → w.next ≡ 0 → nodes ≡ map node_words vs → Each (λ v. core b v ≡ true) vs → Reached nodes b vs 0 0 b w w.out.now
reached_first nodes b vs w ef eb eh ew ed en h c = record {
  z = start;
  es = [];
  rest = vs;
  runs = refl;
  peaks = refl;
  has = h;
  left = omega arith;
  core = c;
  stands = record { first = ef; base = eb; height = eh; placed = tt; next = en; holds = λ _. record { waiting = ew; head = ed; wrote = wrote_none w.out.now } };
  counts = refl;
  words = tt;
  deep = omega arith;
  high = omega arith;
  few = omega arith;
}

-- what a turn of the loop has done
pub record Turn (words : List ℕ) (b waiting places : ℕ) (w : Writer) (waiting1 places1 : ℕ) (x : Writer) : Type 0 where
  pub node : Node
  pub read : (c : ℕ) (v : Resolved) → core c v ≡ true → words ≡ node_words v → meant node ≡ v
  pub counted : waiting1 ≡ min (counted node waiting) 4294967295
  pub highest : places1 ≡ max places (min (b + waiting1) 4294967295)
  pub turned : Turned (meant node) w x

more : (nodes : List (List ℕ)) (b : ℕ) (all : List Resolved) (i : ℕ) (d : List ℕ) (waiting places : ℕ) (w : Writer) (o : Row) (waiting1 places1 : ℕ) (x : Writer) (z : Marks) (es : List Entry) (rest : List Resolved)
    → run b rest z ≡ run b all start → peak b rest es places ≡ peak b all [] b → drop i nodes ≡ map node_words rest → length rest + i ≡ length all → Each (λ v. core b v ≡ true) rest → Stands b z w o → waiting ≡ length es → Words es → length z.pile ≤ length es → b + length es ≤ places → length z.out ≤ 4 * i
    → i < length all → Fit b all (length w.pile.now) → 4 * length all + 4 < 4294967296 → Turn (get_or nodes i d) b waiting places w waiting1 places1 x
    → Reached nodes b all (i + 1) waiting1 places1 x o
more nodes b all i d waiting places w o waiting1 places1 x z es [] eruns epeaks has left core st counts words deep high few lt fit most t = absurd (let k : ⊥ = omega arith in k)
more nodes b all i d waiting places w o waiting1 places1 x z es (v ∷ rest) eruns epeaks has left core st counts words deep high few lt fit most t =
    let next = next-is nodes i has in
    let is : meant t.node ≡ v = t.read b v core.0 (next.item d) in
    let w1 = words-piled b v es core.0 words in
    let ab = words-above b (piled v es) w1 in
    let pk = peak-high b rest (piled v es) (max places (above b (piled v es))) in
    let fp = fit.pile in
    let fs = fit.small in
    let cl : length (piled v es) ≡ counted t.node (length es) = ap (λ y. length (piled y es)) (sym is) ∙ piled-long t.node es in
    let cc1 : counted t.node waiting ≡ length (piled v es) = ap (counted t.node) counts ∙ sym cl in
    let c1 : waiting1 ≡ length (piled v es) = let a = t.counted in omega arith in
    let p1 : places1 ≡ max places (above b (piled v es)) = let a = t.highest in omega arith in
    let low = peak-high b (v ∷ rest) es places in
    record {
      z = emit b v z;
      es = piled v es;
      rest = rest;
      runs = eruns;
      peaks = ap (peak b rest (piled v es)) p1 ∙ epeaks;
      has = next.others;
      left = omega arith;
      core = core.1;
      stands = subst (λ y. Stands b (emit b y z) x o) is (t.turned.goes b z o (subst (λ y. Rattle.generator.specs.Core.core b y ≡ true) (sym is) core.0) (record { deep = omega arith; places = omega arith; steps = omega arith }) st);
      counts = c1;
      words = w1;
      deep = piled-deep b v z es deep;
      high = omega arith;
      few = omega (arith, emit-few b v z);
    }

pub reached-more : {nodes : List (List ℕ)} {b : ℕ} {all : List Resolved} {i : ℕ} (d : List ℕ) {waiting places : ℕ} {w : Writer} {o : Row} {waiting1 places1 : ℕ} {x : Writer}
    → Reached nodes b all i waiting places w o → i < length nodes → nodes ≡ map node_words all → Fit b all (length w.pile.now) → length all < 1073741823 → Turn (get_or nodes i d) b waiting places w waiting1 places1 x
    → Reached nodes b all (i + 1) waiting1 places1 x o
reached-more {nodes} {b} {all} {i} d {waiting} {places} {w} {o} {waiting1} {places1} {x} s lt is fit most t =
    more nodes b all i d waiting places w o waiting1 places1 x s.z s.es s.rest s.runs s.peaks s.has s.left s.core s.stands s.counts s.words s.deep s.high s.few (omega (arith, ap length is, length-map all node_words)) fit (omega arith) t

stop : (b : ℕ) (all : List Resolved) (places : ℕ) (w : Writer) (o : Row) (z : Marks) (es : List Entry) (rest : List Resolved)
    → run b rest z ≡ run b all start → peak b rest es places ≡ peak b all [] b → length rest ≤ 0 → Stands b z w o → Lent o w.out.now → BodyIs b all places w.next o w.out.now
stop b all places w o z es (v ∷ rest) er ep l st le = absurd (let k : ⊥ = omega arith in k)
stop b all places w o z es [] er ep l st le =
    let f : Stands b (run b all start) w o = subst (λ y. Stands b y w o) er st in
    record {
      places = ep;
      steps = f.next;
      pushed = record { wrote = λ room. (f.holds (let k = steps-long (run b all start).out in omega arith)).wrote; kept = le.kept; same = le.same };
    }

pub reached_last : {nodes : List (List ℕ)} {b : ℕ} {all : List Resolved} {i waiting places : ℕ} {w : Writer} {o : Row} → Reached nodes b all i waiting places w o → length nodes ≤ i → nodes ≡ map node_words all → Lent o w.out.now → BodyIs b all places w.next o w.out.now
reached_last {nodes} {b} {all} {i} {waiting} {places} {w} {o} s h is le = stop b all places w o s.z s.es s.rest s.runs s.peaks (let a = s.left in omega (arith, ap length is, length-map all node_words)) s.stands le

-- what was written, at the end
pub body-done : {nodes : List (List ℕ)} {b words places : ℕ} (w : Writer) {o p : Row} → p ≡ w.out.now → Lent o w.out.now → ((vs : List Resolved) → nodes ≡ map node_words vs → Fit b vs words → length vs < 1073741823 → BodyIs b vs places w.next o w.out.now) → BodyDone nodes b words o places w.next p
body-done {nodes} {b} {words} {places} w {o} {p} e l f = subst (λ q. BodyDone nodes b words o places w.next q) (sym e) (record { lent = l; body = f })
