-- What is put out and the list of calls only grow; and a run that is followed further finds the same, or goes on from where it was spent.
-- One relation between the results with less and with more depth serves both, with one lemma for each combinator of the meaning.
use mathlib.Core.Path.{◌≡◌, refl, sym, ◌∙◌, ap, subst}
use mathlib.Core.Bool.{Bool, true, false}
use mathlib.Core.List.{List, [], ◌∷◌, ◌++◌, append_assoc, append-nil}
use mathlib.Core.Option.{Option, some, none}
use Prim.Native.Nat.{ℕ, zero, suc, ◌≤◌}
use lib.Dec.{eqb}
use native.Mathlib.Nat.{le_of_suc-le-suc, not-suc-le-zero}
use Rattle.language.specs.Observe.{Front, none_yet, and_so, state_of, outs_of, IsSpent, is_spent}
use Rattle.language.proofs.WellTyped.{absurd_some, some_is}
use Rattle.language.specs.Laws.{NeverWrong, Further, Grown, OnlyGrows}
use Rattle.language.specs.Syntax.{pick, opt, nth, Name, Expr, num, var, bin, un, and1, or1, idx, len, call, by_table, input, Exprs, no, and_then, Stmt, set1, store1, ex1, out1, if1, while1, ret1, break1, next1, Block, end, seq1, Fn, Prog}
use Rattle.language.specs.Meaning.{Value, Mark, State, Result, val, vals, fine, broke, goes_on, gives, trap, spent, wrong, on_val, on_vals, on_fine, on_round, on_end, back, num_of, div0, arith, either, get_var, get_arr, resolve, as_fn, as_table, as_word, on_some, get_b, Task, t_e, t_es, t_s, t_b, t_call, Go, reads, reads_from, writes, cell_at, cell_put, calls, evals, lists, assigns, does, runs, task, run, enter, begin, first_file, w_main}

-- what was put out, and the calls so far, only grow
pub record Ext (s t : State) : Type 0 where
  pub o : List ℕ
  pub outs_is : t.outs ≡ s.outs ++ o
  pub c : List Mark
  pub calls_is : t.calls ≡ s.calls ++ c

pub record Kept (s t : State) : Type 0 where
  pub ext : Ext s t
  pub held_is : t.held ≡ s.held

-- of a result that comes from s
abbrev pub Grows : State → Result → Type 0
Grows s (val v t) = Kept s t
Grows s (vals vs t) = Kept s t
Grows s (fine t) = Kept s t
Grows s (broke t) = Kept s t
Grows s (goes_on t) = Kept s t
Grows s (gives v t) = Kept s t
Grows s (trap c t) = Ext s t
Grows s (spent t) = Ext s t
Grows s wrong = Unit {0}

-- of a result that a spent one, in t, turns into
abbrev pub After : State → Result → Type 0
After t (val v u) = Ext t u
After t (vals vs u) = Ext t u
After t (fine u) = Ext t u
After t (broke u) = Ext t u
After t (goes_on u) = Ext t u
After t (gives v u) = Ext t u
After t (trap c u) = Ext t u
After t (spent u) = Ext t u
After t wrong = Unit {0}

-- from s, r with less and r' with more
pub data Step (s : State) : Result → Result → Type 0 where
  stays : {r : Result} → Grows s r → Step s r r
  more : {t : State} {r : Result} → Ext s t → After t r → Grows s r → Step s (spent t) r

pub ext_refl : (s : State) → Ext s s
ext_refl s = record { o = []; outs_is = sym (append-nil s.outs); c = []; calls_is = sym (append-nil s.calls) }

pub ext_trans : {s t u : State} → Ext s t → Ext t u → Ext s u
ext_trans {s} {t} {u} a b = record {
  o = a.o ++ b.o;
  outs_is = b.outs_is ∙ (ap (λ x. x ++ b.o) a.outs_is ∙ append_assoc s.outs a.o b.o);
  c = a.c ++ b.c;
  calls_is = b.calls_is ∙ (ap (λ x. x ++ b.c) a.calls_is ∙ append_assoc s.calls a.c b.c);
}

pub here : (s : State) → Kept s s
here s = record { ext = ext_refl s; held_is = refl }

pub kept_trans : {s t u : State} → Kept s t → Kept t u → Kept s u
kept_trans a b = record { ext = ext_trans a.ext b.ext; held_is = b.held_is ∙ a.held_is }

-- what comes after t, when t comes after s
pub after : {s t : State} (r : Result) → Kept s t → Grows t r → Grows s r
after (val v u) k g = kept_trans k g
after (vals vs u) k g = kept_trans k g
after (fine u) k g = kept_trans k g
after (broke u) k g = kept_trans k g
after (goes_on u) k g = kept_trans k g
after (gives v u) k g = kept_trans k g
after (trap c u) k g = ext_trans k.ext g
after (spent u) k g = ext_trans k.ext g
after wrong k g = tt

pub later : {s t : State} (r : Result) → Ext s t → Grows t r → After s r
later (val v u) k g = ext_trans k g.ext
later (vals vs u) k g = ext_trans k g.ext
later (fine u) k g = ext_trans k g.ext
later (broke u) k g = ext_trans k g.ext
later (goes_on u) k g = ext_trans k g.ext
later (gives v u) k g = ext_trans k g.ext
later (trap c u) k g = ext_trans k g
later (spent u) k g = ext_trans k g
later wrong k g = tt

pub from : {s t : State} {r r' : Result} → Kept s t → Step t r r' → Step s r r'
from k (stays {r = r} g) = stays (after r k g)
from k (more {r = r} e a g) = more (ext_trans k.ext e) a (after r k g)

pub right : {s : State} {r r' : Result} → Step s r r' → Grows s r'
right (stays g) = g
right (more e a g) = g

-- the combinators
module _ {f f' : Value → State → Result} (k : (v : Value) (t : State) → Step t (f v t) (f' v t)) where
  val_same : {s : State} (r : Result) → Grows s r → Step s (on_val r f) (on_val r f')
  val_same (val v t) g = from g (k v t)
  val_same (vals vs t) g = stays tt
  val_same (fine t) g = stays tt
  val_same (broke t) g = stays tt
  val_same (goes_on t) g = stays tt
  val_same (gives v t) g = stays tt
  val_same (trap c t) g = stays g
  val_same (spent t) g = stays g
  val_same wrong g = stays tt

  val_after : (t₀ : State) (r : Result) → After t₀ r → After t₀ (on_val r f')
  val_after t₀ (val v t) a = later (f' v t) a (right (k v t))
  val_after t₀ (vals vs t) a = tt
  val_after t₀ (fine t) a = tt
  val_after t₀ (broke t) a = tt
  val_after t₀ (goes_on t) a = tt
  val_after t₀ (gives v t) a = tt
  val_after t₀ (trap c t) a = a
  val_after t₀ (spent t) a = a
  val_after t₀ wrong a = tt

  pub st_val : {s : State} {r r' : Result} → Step s r r' → Step s (on_val r f) (on_val r' f')
  st_val (stays {r = r} g) = val_same r g
  st_val (more {t = t} {r = r} e a g) = more e (val_after t r a) (right (val_same r g))

module _ {f f' : List Value → State → Result} (k : (vs : List Value) (t : State) → Step t (f vs t) (f' vs t)) where
  vals_same : {s : State} (r : Result) → Grows s r → Step s (on_vals r f) (on_vals r f')
  vals_same (val v t) g = stays tt
  vals_same (vals vs t) g = from g (k vs t)
  vals_same (fine t) g = stays tt
  vals_same (broke t) g = stays tt
  vals_same (goes_on t) g = stays tt
  vals_same (gives v t) g = stays tt
  vals_same (trap c t) g = stays g
  vals_same (spent t) g = stays g
  vals_same wrong g = stays tt

  vals_after : (t₀ : State) (r : Result) → After t₀ r → After t₀ (on_vals r f')
  vals_after t₀ (val v t) a = tt
  vals_after t₀ (vals vs t) a = later (f' vs t) a (right (k vs t))
  vals_after t₀ (fine t) a = tt
  vals_after t₀ (broke t) a = tt
  vals_after t₀ (goes_on t) a = tt
  vals_after t₀ (gives v t) a = tt
  vals_after t₀ (trap c t) a = a
  vals_after t₀ (spent t) a = a
  vals_after t₀ wrong a = tt

  pub st_vals : {s : State} {r r' : Result} → Step s r r' → Step s (on_vals r f) (on_vals r' f')
  st_vals (stays {r = r} g) = vals_same r g
  st_vals (more {t = t} {r = r} e a g) = more e (vals_after t r a) (right (vals_same r g))

module _ {f f' : State → Result} (k : (t : State) → Step t (f t) (f' t)) where
  fine_same : {s : State} (r : Result) → Grows s r → Step s (on_fine r f) (on_fine r f')
  fine_same (val v t) g = stays tt
  fine_same (vals vs t) g = stays tt
  fine_same (fine t) g = from g (k t)
  fine_same (broke t) g = stays g
  fine_same (goes_on t) g = stays g
  fine_same (gives v t) g = stays g
  fine_same (trap c t) g = stays g
  fine_same (spent t) g = stays g
  fine_same wrong g = stays tt

  fine_after : (t₀ : State) (r : Result) → After t₀ r → After t₀ (on_fine r f')
  fine_after t₀ (val v t) a = tt
  fine_after t₀ (vals vs t) a = tt
  fine_after t₀ (fine t) a = later (f' t) a (right (k t))
  fine_after t₀ (broke t) a = a
  fine_after t₀ (goes_on t) a = a
  fine_after t₀ (gives v t) a = a
  fine_after t₀ (trap c t) a = a
  fine_after t₀ (spent t) a = a
  fine_after t₀ wrong a = tt

  pub st_fine : {s : State} {r r' : Result} → Step s r r' → Step s (on_fine r f) (on_fine r' f')
  st_fine (stays {r = r} g) = fine_same r g
  st_fine (more {t = t} {r = r} e a g) = more e (fine_after t r a) (right (fine_same r g))

module _ {f f' : State → Result} (k : (t : State) → Step t (f t) (f' t)) where
  round_same : {s : State} (r : Result) → Grows s r → Step s (on_round r f) (on_round r f')
  round_same (val v t) g = stays tt
  round_same (vals vs t) g = stays tt
  round_same (fine t) g = from g (k t)
  round_same (broke t) g = stays g
  round_same (goes_on t) g = from g (k t)
  round_same (gives v t) g = stays g
  round_same (trap c t) g = stays g
  round_same (spent t) g = stays g
  round_same wrong g = stays tt

  round_after : (t₀ : State) (r : Result) → After t₀ r → After t₀ (on_round r f')
  round_after t₀ (val v t) a = tt
  round_after t₀ (vals vs t) a = tt
  round_after t₀ (fine t) a = later (f' t) a (right (k t))
  round_after t₀ (broke t) a = a
  round_after t₀ (goes_on t) a = later (f' t) a (right (k t))
  round_after t₀ (gives v t) a = a
  round_after t₀ (trap c t) a = a
  round_after t₀ (spent t) a = a
  round_after t₀ wrong a = tt

  pub st_round : {s : State} {r r' : Result} → Step s r r' → Step s (on_round r f) (on_round r' f')
  st_round (stays {r = r} g) = round_same r g
  st_round (more {t = t} {r = r} e a g) = more e (round_after t r a) (right (round_same r g))

pub st_opt :
    {A : Type 0} {s : State} {c c' : Result} {f f' : A → Result} (o : Option A) → Step s c c' → ((x : A) → Step s (f x) (f' x)) →
    Step s (opt o c f) (opt o c' f')
st_opt none h k = h
st_opt (some x) h k = k x

pub st_either :
    {s : State} {f f' g g' : State → Result} (b : Bool) → ((t : State) → Step t (f t) (f' t)) → ((t : State) → Step t (g t) (g' t)) →
    Step s (either b f g s) (either b f' g' s)
st_either {s} true h k = h s
st_either {s} false h k = k s

pub st_pick : {s : State} {a a' b b' : Result} (c : Bool) → Step s a a' → Step s b b' → Step s (pick c a b) (pick c a' b')
st_pick true h k = h
st_pick false h k = k

-- a result from s itself
pub ext-back : {t₀ t : State} (s : State) → Ext t₀ t → Ext t₀ (back s t)
ext-back s e = record { o = e.o; outs_is = e.outs_is; c = e.c; calls_is = e.calls_is }

pub kept_back : {s t : State} → Ext s t → Kept s (back s t)
kept_back {s} e = record { ext = ext-back s e; held_is = refl }

module _ {s e : State} (d : Ext s e) where
  end_same : (r : Result) → Grows e r → Step s (on_end s r) (on_end s r)
  end_same (val v t) g = stays tt
  end_same (vals vs t) g = stays tt
  end_same (fine t) g = stays (kept_back (ext_trans d g.ext))
  end_same (broke t) g = stays tt
  end_same (goes_on t) g = stays tt
  end_same (gives v t) g = stays (kept_back (ext_trans d g.ext))
  end_same (trap c t) g = stays (ext_trans d g)
  end_same (spent t) g = stays (ext_trans d g)
  end_same wrong g = stays tt

  end_after : (t₀ : State) (r : Result) → After t₀ r → After t₀ (on_end s r)
  end_after t₀ (val v t) a = tt
  end_after t₀ (vals vs t) a = tt
  end_after t₀ (fine t) a = ext-back s a
  end_after t₀ (broke t) a = tt
  end_after t₀ (goes_on t) a = tt
  end_after t₀ (gives v t) a = ext-back s a
  end_after t₀ (trap c t) a = a
  end_after t₀ (spent t) a = a
  end_after t₀ wrong a = tt

  pub st_end : {r r' : Result} → Step e r r' → Step s (on_end s r) (on_end s r')
  st_end (stays {r = r} g) = end_same r g
  st_end (more {t = t} {r = r} x a g) = more (ext_trans d x) (end_after t r a) (right (end_same r g))

pub ext-enter : (g : Fn) (vs : List Value) (s : State) → Ext s (enter g vs s)
ext-enter g vs s = record { o = []; outs_is = sym (append-nil s.outs); c = _; calls_is = refl }

-- what needs no deeper look
pub same-arith : (o x y : ℕ) (s : State) → Step s (arith o x y s) (arith o x y s)
same-arith o x y s = st_pick (div0 o y) (stays (ext_refl s)) (stays (here s))

pub quiet : {s t : State} → t.outs ≡ s.outs → t.calls ≡ s.calls → t.held ≡ s.held → Kept s t
quiet {s} {t} a b c = record {
  ext = record { o = []; outs_is = a ∙ sym (append-nil s.outs); c = []; calls_is = b ∙ sym (append-nil s.calls) };
  held_is = c;
}

pub same_reads : (s : State) → Step s (reads s) (reads s)
same_reads s = go s.ins
  where
    go : (l : List ℕ) → Step s (reads_from l s) (reads_from l s)
    go [] = stays (ext_refl s)
    go (n ∷ ns) = stays (quiet refl refl refl)

pub same-cell : (s : State) (a i : ℕ) → Step s (cell_at s a i) (cell_at s a i)
same-cell s a i = st_opt (nth s.arrays a) (stays tt) (λ c. st_opt (nth c.cells i) (stays (ext_refl s)) (λ n. stays (here s)))

pub same-put : (s : State) (a i n : ℕ) → Step s (cell_put s a i n) (cell_put s a i n)
same-put s a i n = st_opt (nth s.arrays a) (stays tt) (λ c. st_opt (nth c.cells i) (stays (ext_refl s)) (λ old. stays (quiet refl refl refl)))

pub same-assigns : (p : Prog) (f x : Name) (v : Value) (s : State) → Step s (assigns p f x v s) (assigns p f x v s)
same-assigns p f x v s = st_opt (get_b s.vars x) (st_opt (num_of v) (stays tt) (λ n. st_opt (on_some (resolve p f x) as_word) (stays tt) (λ i. stays (quiet refl refl refl)))) (λ old. stays (quiet refl refl refl))

pub kept-writes : (n : ℕ) (s : State) → Kept s (writes n s)
kept-writes n s = record { ext = record { o = n ∷ []; outs_is = refl; c = []; calls_is = sym (append-nil s.calls) }; held_is = refl }

module _ {go go' : Go} (p : Prog) (h : (f : Name) (t : Task) (s : State) → Step s (go f t s) (go' f t s)) where
  calls_ahead : (f x : Name) (vs : List Value) (s : State) → Step s (calls go p f x vs s) (calls go' p f x vs s)
  calls_ahead f x vs s = st_opt (resolve p f x) (stays tt) (λ t. st_opt (as_fn t) (stays tt) (λ g. h t.file (t_call g vs) s))

  e_ahead : (f : Name) (e : Expr) (s : State) → Step s (evals go p f e s) (evals go' p f e s)
  e_ahead f (num n) s = stays (here s)
  e_ahead f (var x) s = st_opt (get_var p f x s) (stays tt) (λ v. stays (here s))
  e_ahead f (bin o a b) s = st_val (λ u s1. st_val (λ v s2. st_opt (num_of u) (stays tt) (λ x. st_opt (num_of v) (stays tt) (λ y. same-arith o x y s2))) (h f (t_e b) s1)) (h f (t_e a) s)
  e_ahead f (un o a) s = st_val (λ u s1. st_opt (num_of u) (stays tt) (λ x. stays (here s1))) (h f (t_e a) s)
  e_ahead f (and1 a b) s = st_val (λ u s1. st_opt (num_of u) (stays tt) (λ x. st_either (eqb x 0) (λ t. stays (here t)) (λ t. st_val (λ v s2. st_opt (num_of v) (stays tt) (λ y. stays (here s2))) (h f (t_e b) t)))) (h f (t_e a) s)
  e_ahead f (or1 a b) s = st_val (λ u s1. st_opt (num_of u) (stays tt) (λ x. st_either (eqb x 0) (λ t. st_val (λ v s2. st_opt (num_of v) (stays tt) (λ y. stays (here s2))) (h f (t_e b) t)) (λ t. stays (here t)))) (h f (t_e a) s)
  e_ahead f (idx x e) s = st_val (λ u s1. st_opt (num_of u) (stays tt) (λ i. st_opt (get_arr p f x s1) (stays tt) (λ a. same-cell s1 a i))) (h f (t_e e) s)
  e_ahead f (len x) s = st_opt (get_arr p f x s) (stays tt) (λ a. st_opt (nth s.arrays a) (stays tt) (λ c. stays (here s)))
  e_ahead f (call x es) s = st_vals (λ vs s1. calls_ahead f x vs s1) (h f (t_es es []) s)
  e_ahead f (by_table x e es) s = st_val (λ u s1. st_opt (num_of u) (stays tt) (λ i. st_vals (λ vs s2. st_opt (resolve p f x) (stays tt) (λ t. st_opt (as_table t) (stays tt) (λ fs. st_opt (nth fs i) (stays (ext_refl s2)) (λ g. calls_ahead t.file g vs s2)))) (h f (t_es es []) s1))) (h f (t_e e) s)
  e_ahead f input s = same_reads s

  es_ahead : (f : Name) (es : Exprs) (vs : List Value) (s : State) → Step s (lists go f es vs s) (lists go' f es vs s)
  es_ahead f no vs s = stays (here s)
  es_ahead f (and_then e es) vs s = st_val (λ v s1. h f (t_es es (vs ++ (v ∷ []))) s1) (h f (t_e e) s)

  s_ahead : (f : Name) (a : Stmt) (s : State) → Step s (does go p f a s) (does go' p f a s)
  s_ahead f (set1 x e) s = st_val (λ v s1. same-assigns p f x v s1) (h f (t_e e) s)
  s_ahead f (store1 x i e) s = st_val (λ u s1. st_val (λ v s2. st_opt (num_of u) (stays tt) (λ j. st_opt (num_of v) (stays tt) (λ n. st_opt (get_arr p f x s2) (stays tt) (λ a. same-put s2 a j n)))) (h f (t_e e) s1)) (h f (t_e i) s)
  s_ahead f (ex1 e) s = st_val (λ v s1. stays (here s1)) (h f (t_e e) s)
  s_ahead f (out1 e) s = st_val (λ v s1. st_opt (num_of v) (stays tt) (λ n. stays (kept-writes n s1))) (h f (t_e e) s)
  s_ahead f (if1 e b c) s = st_val (λ v s1. st_opt (num_of v) (stays tt) (λ n. st_either (eqb n 0) (h f (t_b c)) (h f (t_b b)))) (h f (t_e e) s)
  s_ahead f (while1 e b) s = st_val (λ v s1. st_opt (num_of v) (stays tt) (λ n. st_either (eqb n 0) (λ t. stays (here t)) (λ t. st_round (λ s2. h f (t_s (while1 e b)) s2) (h f (t_b b) t)))) (h f (t_e e) s)
  s_ahead f (ret1 e) s = st_val (λ v s1. stays (here s1)) (h f (t_e e) s)
  s_ahead f break1 s = stays (here s)
  s_ahead f next1 s = stays (here s)

  b_ahead : (f : Name) (b : Block) (s : State) → Step s (runs go f b s) (runs go' f b s)
  b_ahead f end s = stays (here s)
  b_ahead f (seq1 a b) s = st_fine (λ s1. h f (t_b b) s1) (h f (t_s a) s)

  pub task_ahead : (f : Name) (t : Task) (s : State) → Step s (task go p f t s) (task go' p f t s)
  task_ahead f (t_e e) s = e_ahead f e s
  task_ahead f (t_es es vs) s = es_ahead f es vs s
  task_ahead f (t_s a) s = s_ahead f a s
  task_ahead f (t_b b) s = b_ahead f b s
  task_ahead f (t_call g vs) s = st_end (ext-enter g vs s) (h f (t_b g.body) (enter g vs s))

-- every run grows
pub run-same : (p : Prog) (n : ℕ) (f : Name) (t : Task) (s : State) → Step s (run p n f t s) (run p n f t s)
run-same p zero f t s = stays (ext_refl s)
run-same p (suc n) f t s = task_ahead p (run-same p n) f t s

pub run_grows : (p : Prog) (n : ℕ) (f : Name) (t : Task) (s : State) → Grows s (run p n f t s)
run_grows p n f t s = right (run-same p n f t s)

-- more depth, of every program
pub run_ahead : (p : Prog) (m n : ℕ) → m ≤ n → (f : Name) (t : Task) (s : State) → Step s (run p m f t s) (run p n f t s)
run_ahead p zero n l f t s = more (ext_refl s) (later (run p n f t s) (ext_refl s) (run_grows p n f t s)) (run_grows p n f t s)
run_ahead p (suc m) zero l f t s = absurd (not-suc-le-zero l)
run_ahead p (suc m) (suc n) l f t s = task_ahead p (run_ahead p m n (le_of_suc-le-suc l)) f t s

-- as the laws say it
pub front-app : {A : Type 0} (a b : List A) → Front a (a ++ b)
front-app [] b = none_yet
front-app (x ∷ a) b = and_so (front-app a b)

pub ext-front : {s t : State} → Ext s t → Front s.outs t.outs
ext-front {s} {t} e = rw e.outs_is (front-app s.outs e.o)

pub after_front : (s : State) (r : Result) → (r ≡ wrong → ⊥) → After s r → Front s.outs (outs_of r)
after_front s (val v t) w a = ext-front a
after_front s (vals vs t) w a = ext-front a
after_front s (fine t) w a = ext-front a
after_front s (broke t) w a = ext-front a
after_front s (goes_on t) w a = ext-front a
after_front s (gives v t) w a = ext-front a
after_front s (trap c t) w a = ext-front a
after_front s (spent t) w a = ext-front a
after_front s wrong w a = absurd (w refl)

abbrev pub Found : Result → Result → Type 0
Found r r' = (IsSpent r → Front (outs_of r) (outs_of r')) × ((IsSpent r → ⊥) → r' ≡ r)

front_refl : (l : List ℕ) → Front l l
front_refl [] = none_yet
front_refl (x ∷ l) = and_so (front_refl l)

pub step-found : {s : State} {r r' : Result} → (r' ≡ wrong → ⊥) → Step s r r' → Found r r'
step-found w (stays {r = r} g) = (λ i. front_refl (outs_of r), λ i. refl)
step-found w (more {t = t} {r = r} e a g) = (λ i. after_front t r w a, λ i. absurd (i is_spent))

pub never_further : NeverWrong → Further
never_further b p ins m n d h = step-found (b p ins n d) (run_ahead p m n h (first_file p) (t_e (call w_main no)) (begin p ins))

-- what was put out and the calls so far, of the state of any result
grown : {s t : State} → Ext s t → Grown s t
grown {s} {t} e = record { outs = ext-front e; calls = rw e.calls_is (front-app s.calls e.c) }

state_grown : (s t : State) (r : Result) → Grows s r → state_of r ≡ some t → Grown s t
state_grown s t (val v u) g e = subst (Grown s) (some_is e) (grown g.ext)
state_grown s t (vals vs u) g e = subst (Grown s) (some_is e) (grown g.ext)
state_grown s t (fine u) g e = subst (Grown s) (some_is e) (grown g.ext)
state_grown s t (broke u) g e = subst (Grown s) (some_is e) (grown g.ext)
state_grown s t (goes_on u) g e = subst (Grown s) (some_is e) (grown g.ext)
state_grown s t (gives v u) g e = subst (Grown s) (some_is e) (grown g.ext)
state_grown s t (trap c u) g e = subst (Grown s) (some_is e) (grown g)
state_grown s t (spent u) g e = subst (Grown s) (some_is e) (grown g)
state_grown s t wrong g e = absurd_some e

pub only_grows_holds : OnlyGrows
only_grows_holds p n f k s t e = state_grown s t (run p n f k s) (run_grows p n f k s) e
