-- Nodes and what they count: three words are the node that they were made from; how many values and steps a node can add.
use Rattle.std.proofs.Common.{◌≡◌, ℕ, zero, suc, Result, ◌+◌, ◌≤◌, max, true, List, [], ◌∷◌, length, get_or, refl, ap, ◌∙◌, arith, length-append}
use Rattle.std.specs.Result.{result_unwrap_or}
use mathlib.Core.Bool.{false≢true}
use Rattle.generator.specs.Resolved.{Resolved, v_num, v_own, v_copy, v_get, v_arr, v_bin, v_un, v_and, v_or, v_join, v_idx, v_len, v_call, v_by, v_in, v_set, v_setw, v_clear, v_store, v_ex, v_out, v_if, v_else, v_fi, v_loop, v_while, v_again, v_ret, v_break, v_next, v_end}
use Rattle.generator.specs.ResolvedRows.{node_words}
use Rattle.generator.specs.Emit.{Entry, e_temp, e_own, e_arr, above, under, top, below, Marks, emit}
use Rattle.generator.specs.Peak.{piled, peak}
use Rattle.generator.specs.Core.{core}
use Rattle.stepper.specs.declared.node.Node.{Node}
use Rattle.stepper.specs.declared.node.UnknownNode.{UnknownNode}
use Rattle.stepper.specs.declared.node.Node.TheVariants.{Num, Own, Copy, Get, Bin, Un, And, Or, Join, Call, Set, SetWord, Clear, Forget, Out, If, Else, Fi, Loop, While, Again, Ret, Break, Next, End}
use Rattle.stepper.specs.Nodes.{meant, decoded, counted}
use Rattle.stepper.proofs.Targets.{aim-long}
use Rattle.stepper.proofs.Standing.{under-long, below-long}
use Rattle.stepper.proofs.Testing.{settled-long}

pub node-long : (v : Resolved) → length (node_words v) ≡ 3
node-long (v_num n) = refl
node-long (v_own k) = refl
node-long (v_copy k) = refl
node-long (v_get i) = refl
node-long (v_arr o) = refl
node-long (v_bin o) = refl
node-long (v_un o) = refl
node-long v_and = refl
node-long v_or = refl
node-long v_join = refl
node-long (v_idx o) = refl
node-long (v_len o) = refl
node-long (v_call f n) = refl
node-long (v_by t n) = refl
node-long v_in = refl
node-long (v_set k) = refl
node-long (v_setw i) = refl
node-long v_clear = refl
node-long (v_store w o) = refl
node-long v_ex = refl
node-long v_out = refl
node-long v_if = refl
node-long v_else = refl
node-long v_fi = refl
node-long v_loop = refl
node-long v_while = refl
node-long v_again = refl
node-long v_ret = refl
node-long v_break = refl
node-long v_next = refl
node-long v_end = refl

abbrev word : Resolved → ℕ → ℕ
word v k = get_or (node_words v) k 0

own-node : (b : ℕ) (v : Resolved) → core b v ≡ true → meant (result_unwrap_or (decoded (word v 0) (word v 1) (word v 2)) End) ≡ v
own-node b (v_num n) h = refl
own-node b (v_own k) h = refl
own-node b (v_copy k) h = refl
own-node b (v_get i) h = refl
own-node b (v_arr o) h = absurd (false≢true h)
own-node b (v_bin o) h = refl
own-node b (v_un o) h = refl
own-node b v_and h = refl
own-node b v_or h = refl
own-node b v_join h = refl
own-node b (v_idx o) h = absurd (false≢true h)
own-node b (v_len o) h = absurd (false≢true h)
own-node b (v_call f n) h = refl
own-node b (v_by t n) h = absurd (false≢true h)
own-node b v_in h = absurd (false≢true h)
own-node b (v_set k) h = refl
own-node b (v_setw i) h = refl
own-node b v_clear h = refl
own-node b (v_store w o) h = absurd (false≢true h)
own-node b v_ex h = refl
own-node b v_out h = refl
own-node b v_if h = refl
own-node b v_else h = refl
own-node b v_fi h = refl
own-node b v_loop h = refl
own-node b v_while h = refl
own-node b v_again h = refl
own-node b v_ret h = refl
own-node b v_break h = refl
own-node b v_next h = refl
own-node b v_end h = refl

pub node-is : (b : ℕ) (v : Resolved) (ws : List ℕ) (r : Result Node UnknownNode) → core b v ≡ true → ws ≡ node_words v → r ≡ decoded (get_or ws 0 0) (get_or ws 1 0) (get_or ws 2 0) → meant (result_unwrap_or r End) ≡ v
node-is b v ws r c e h = ap (λ x. meant (result_unwrap_or x End)) (h ∙ ap (λ l. decoded (get_or l 0 0) (get_or l 1 0) (get_or l 2 0)) e) ∙ own-node b v c

-- no array waits
abbrev pub Words : List Entry → Type 0
Words [] = Unit {0}
Words (e_temp ∷ es) = Words es
Words (e_own k ∷ es) = Words es
Words (e_arr o ∷ es) = ⊥

pub words-above : (b : ℕ) (es : List Entry) → Words es → above b es ≡ b + length es
words-above b [] w = omega arith
words-above b (e_temp ∷ es) w = let i = words-above b es w in omega arith
words-above b (e_own k ∷ es) w = let i = words-above b es w in omega arith
words-above b (e_arr o ∷ es) w = absurd w

words-under : (es : List Entry) → Words es → Words (under es)
words-under [] w = tt
words-under (e_temp ∷ es) w = w
words-under (e_own k ∷ es) w = w
words-under (e_arr o ∷ es) w = absurd w

words-below : (n : ℕ) (es : List Entry) → Words es → Words (below n es)
words-below zero es w = w
words-below (suc n) es w = words-below n (under es) (words-under es w)

pub words-piled : (b : ℕ) (v : Resolved) (es : List Entry) → core b v ≡ true → Words es → Words (piled v es)
words-piled b (v_num n) es c h = h
words-piled b (v_own k) es c h = h
words-piled b (v_copy k) es c h = h
words-piled b (v_get i) es c h = h
words-piled b (v_arr o) es c h = absurd (false≢true c)
words-piled b (v_bin o) es c h = words-under (under es) (words-under es h)
words-piled b (v_un o) es c h = words-under es h
words-piled b v_and es c h = words-under es h
words-piled b v_or es c h = words-under es h
words-piled b v_join es c h = words-under es h
words-piled b (v_idx o) es c h = absurd (false≢true c)
words-piled b (v_len o) es c h = absurd (false≢true c)
words-piled b (v_call f n) es c h = words-below n es h
words-piled b (v_by t n) es c h = absurd (false≢true c)
words-piled b v_in es c h = absurd (false≢true c)
words-piled b (v_set k) es c h = words-under es h
words-piled b (v_setw i) es c h = words-under es h
words-piled b v_clear es c h = words-under es h
words-piled b (v_store w o) es c h = absurd (false≢true c)
words-piled b v_ex es c h = words-under es h
words-piled b v_out es c h = words-under es h
words-piled b v_if es c h = words-under es h
words-piled b v_else es c h = h
words-piled b v_fi es c h = h
words-piled b v_loop es c h = h
words-piled b v_while es c h = words-under es h
words-piled b v_again es c h = h
words-piled b v_ret es c h = words-under es h
words-piled b v_break es c h = h
words-piled b v_next es c h = h
words-piled b v_end es c h = h

-- how many values are counted behind a node
pub piled-long : (n : Node) (es : List Entry) → length (piled (meant n) es) ≡ counted n (length es)
piled-long (Num n) es = omega arith
piled-long (Own k) es = omega arith
piled-long (Copy k) es = omega arith
piled-long (Get i) es = omega arith
piled-long (Bin o) es = omega (arith, under-long es, under-long (under es))
piled-long (Un o) es = omega (arith, under-long es)
piled-long And es = omega (arith, under-long es)
piled-long Or es = omega (arith, under-long es)
piled-long Join es = omega (arith, under-long es)
piled-long (Call f n) es = omega (arith, below-long n es)
piled-long (Set k) es = omega (arith, under-long es)
piled-long (SetWord i) es = omega (arith, under-long es)
piled-long Clear es = omega (arith, under-long es)
piled-long Forget es = omega (arith, under-long es)
piled-long Out es = omega (arith, under-long es)
piled-long If es = omega (arith, under-long es)
piled-long Else es = refl
piled-long Fi es = refl
piled-long Loop es = refl
piled-long While es = omega (arith, under-long es)
piled-long Again es = refl
piled-long Ret es = omega (arith, under-long es)
piled-long Break es = refl
piled-long Next es = refl
piled-long End es = omega arith

-- no more wait than are counted
pub piled-deep : (b : ℕ) (v : Resolved) (z : Marks) (es : List Entry) → length z.pile ≤ length es → length (emit b v z).pile ≤ length (piled v es)
piled-deep b (v_num n) z es h = omega arith
piled-deep b (v_own k) z es h = omega arith
piled-deep b (v_copy k) z es h = omega arith
piled-deep b (v_get i) z es h = omega arith
piled-deep b (v_arr o) z es h = omega arith
piled-deep b (v_bin o) z es h = omega (arith, under-long z.pile, under-long es, under-long (under z.pile), under-long (under es))
piled-deep b (v_un o) z es h = omega (arith, under-long z.pile, under-long es)
piled-deep b v_and z es h = omega (arith, under-long z.pile, under-long es)
piled-deep b v_or z es h = omega (arith, under-long z.pile, under-long es)
piled-deep b v_join z es h = omega (arith, under-long z.pile, under-long es)
piled-deep b (v_idx o) z es h = omega (arith, under-long z.pile, under-long es)
piled-deep b (v_len o) z es h = omega arith
piled-deep b (v_call f n) z es h = omega (arith, below-long n z.pile, below-long n es)
piled-deep b (v_by t n) z es h = omega (arith, below-long n z.pile, below-long n es, under-long (below n z.pile), under-long (below n es))
piled-deep b v_in z es h = omega arith
piled-deep b (v_set k) z es h = omega (arith, under-long z.pile, under-long es)
piled-deep b (v_setw i) z es h = omega (arith, under-long z.pile, under-long es)
piled-deep b v_clear z es h = omega (arith, under-long z.pile, under-long es)
piled-deep b (v_store w o) z es h = omega (arith, under-long z.pile, under-long es, under-long (under z.pile), under-long (under es))
piled-deep b v_ex z es h = omega (arith, under-long z.pile, under-long es)
piled-deep b v_out z es h = omega (arith, under-long z.pile, under-long es)
piled-deep b v_if z es h = omega (arith, under-long z.pile, under-long es)
piled-deep b v_else z es h = omega arith
piled-deep b v_fi z es h = omega arith
piled-deep b v_loop z es h = omega arith
piled-deep b v_while z es h = omega (arith, under-long z.pile, under-long es)
piled-deep b v_again z es h = omega arith
piled-deep b v_ret z es h = omega (arith, under-long z.pile, under-long es)
piled-deep b v_break z es h = omega arith
piled-deep b v_next z es h = omega arith
piled-deep b v_end z es h = omega arith

-- a node adds at most four steps
pub emit-few : (b : ℕ) (v : Resolved) (z : Marks) → length (emit b v z).out ≤ length z.out + 4
emit-few b (v_num n) z = simp length-append (omega arith)
emit-few b (v_own k) z = omega arith
emit-few b (v_copy k) z = simp length-append (omega arith)
emit-few b (v_get i) z = simp length-append (omega arith)
emit-few b (v_arr o) z = omega arith
emit-few b (v_bin o) z = simp length-append (omega arith)
emit-few b (v_un o) z = simp length-append (omega arith)
emit-few b v_and z = simp length-append (omega (arith, settled-long (above b (under z.pile)) (top z.pile) z.out))
emit-few b v_or z = simp length-append (omega (arith, settled-long (above b (under z.pile)) (top z.pile) z.out))
emit-few b v_join z = simp (aim-long, length-append) (omega (arith, settled-long (above b (under z.pile)) (top z.pile) z.out))
emit-few b (v_idx o) z = simp length-append (omega arith)
emit-few b (v_len o) z = simp length-append (omega arith)
emit-few b (v_call f n) z = simp length-append (omega arith)
emit-few b (v_by t n) z = simp length-append (omega arith)
emit-few b v_in z = simp length-append (omega arith)
emit-few b (v_set k) z = simp length-append (omega (arith, settled-long (above b (under z.pile)) (top z.pile) z.out))
emit-few b (v_setw i) z = simp length-append (omega (arith, settled-long (above b (under z.pile)) (top z.pile) z.out))
emit-few b v_clear z = simp length-append (omega (arith, settled-long (above b (under z.pile)) (top z.pile) z.out))
emit-few b (v_store w o) z = simp length-append (omega arith)
emit-few b v_ex z = omega (arith, settled-long (above b (under z.pile)) (top z.pile) z.out)
emit-few b v_out z = simp length-append (omega arith)
emit-few b v_if z = simp length-append (omega (arith, settled-long (above b (under z.pile)) (top z.pile) z.out))
emit-few b v_else z = simp (length-append, aim-long) (omega arith)
emit-few b v_fi z = simp aim-long (omega arith)
emit-few b v_loop z = simp length-append (omega arith)
emit-few b v_while z = simp length-append (omega (arith, settled-long (above b (under z.pile)) (top z.pile) z.out))
emit-few b v_again z = simp (length-append, aim-long) (omega arith)
emit-few b v_ret z = simp length-append (omega arith)
emit-few b v_break z = simp length-append (omega arith)
emit-few b v_next z = simp length-append (omega arith)
emit-few b v_end z = simp length-append (omega arith)

pub peak-high : (b : ℕ) (vs : List Resolved) (es : List Entry) (h : ℕ) → h ≤ peak b vs es h
peak-high b [] es h = omega arith
peak-high b (v ∷ vs) es h = let i = peak-high b vs (piled v es) (max h (above b (piled v es))) in omega arith
