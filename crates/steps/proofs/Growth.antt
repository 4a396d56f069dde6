-- What steps have put out, and the marks of calls, stay; where a run has ended it stays.
use Rattle.std.proofs.Common.{◌≡◌, ℕ, zero, suc, ◌+◌, Bool, true, false, List, [], ◌∷◌, ◌++◌, refl, suc-add, zero-add}
use mathlib.Core.Option.{Option, some, none}
use Rattle.language.specs.Syntax.{pick, opt, nth}
use Rattle.language.specs.Meaning.{Mark, Cells, div0}
use Rattle.language.specs.Observe.{Front, none_yet, and_so}
use Rattle.steps.specs.Steps.{Step, s_num, s_copy, s_bin, s_un, s_flag, s_getw, s_setw, s_jump, s_jz, s_call, s_out, s_ret, s_table, s_in, s_idx, s_put, s_len, Opnd, arr_at, arrs_at, with_array, reads_in, MFn, MProg, Saved, MSt, MNext, m_goes, m_ends, m_traps, m_stuck, args, leaves, exec, m_step, m_then, m_after}

pub front_refl : {A : Type 0} (s : List A) → Front s s
front_refl [] = none_yet
front_refl (x ∷ s) = and_so (front_refl s)

pub front_trans : {A : Type 0} {s t u : List A} → Front s t → Front t u → Front s u
front_trans none_yet g = none_yet
front_trans (and_so f) (and_so g) = and_so (front_trans f g)

pub front-more : {A : Type 0} (s t : List A) → Front s (s ++ t)
front-more [] t = none_yet
front-more (x ∷ s) t = and_so (front-more s t)

abbrev pub m_marks : MNext → List Mark
m_marks (m_goes m) = m.calls
m_marks (m_ends x m) = m.calls
m_marks (m_traps c m) = m.calls
m_marks m_stuck = []

pub data Grown (m : MSt) : MNext → Type 0 where
  stuck : Grown m m_stuck
  goes : {z : MSt} → Front m.outs z.outs → Front m.calls z.calls → Grown m (m_goes z)
  ends : {x : ℕ} {z : MSt} → Front m.outs z.outs → Front m.calls z.calls → Grown m (m_ends x z)
  traps : {x : ℕ} {z : MSt} → Front m.outs z.outs → Front m.calls z.calls → Grown m (m_traps x z)

with-opt : {A : Type 0} (m : MSt) (o : Option A) (f : A → MNext) → ((x : A) → Grown m (f x)) → Grown m (opt o m_stuck f)
with-opt m none f k = stuck
with-opt m (some x) f k = k x

or_trap : {A : Type 0} (m : MSt) (o : Option A) (c : ℕ) (f : A → MNext) → ((x : A) → Grown m (f x)) → Grown m (opt o (m_traps c m) f)
or_trap m none c f k = traps (front_refl _) (front_refl _)
or_trap m (some x) c f k = k x

with-arr : (m : MSt) (o : Opnd) (f : ℕ → Cells → MNext) → ((u : ℕ) (c : Cells) → Grown m (f u c)) → Grown m (with_array m o f)
with-arr m o f k = with-opt m (arr_at m.act.arrs o) _ (λ a. with-opt m (nth m.arrays a) _ (λ c. k a c))

same : (m : MSt) (z : MSt) → z.outs ≡ m.outs → z.calls ≡ m.calls → Grown m (m_goes z)
same m z a b = goes (rw a (front_refl _)) (rw b (front_refl _))

grown-leaves : (g : MFn) (x : ℕ) (fs : List Saved) (m : MSt) → Grown m (leaves g x fs m)
grown-leaves g x [] m = ends (front_refl _) (front_refl _)
grown-leaves g x (f ∷ fs) m = same m _ refl refl

grown-exec : (p : MProg) (g : MFn) (c : Step) (m : MSt) → Grown m (exec p g c m)
grown-exec p g (s_num d n) m = same m _ refl refl
grown-exec p g (s_copy d a) m = with-opt m _ _ (λ x. same m _ refl refl)
grown-exec p g (s_bin o d a b) m = with-opt m (m.places a) _ (λ x. with-opt m (m.places b) _ (λ y. go (div0 o y) _ (same m _ refl refl)))
  where
    go : (t : Bool) (z : MNext) → Grown m z → Grown m (pick t (m_traps 2 m) z)
    go true z h = traps (front_refl _) (front_refl _)
    go false z h = h
grown-exec p g (s_un o d a) m = with-opt m _ _ (λ x. same m _ refl refl)
grown-exec p g (s_flag d a) m = with-opt m _ _ (λ x. same m _ refl refl)
grown-exec p g (s_getw d i) m = with-opt m _ _ (λ x. same m _ refl refl)
grown-exec p g (s_setw i a) m = with-opt m _ _ (λ x. same m _ refl refl)
grown-exec p g (s_jump t) m = same m _ refl refl
grown-exec p g (s_jz a t) m = with-opt m _ _ (λ x. same m _ refl refl)
grown-exec p g (s_call d h k n os) m = with-opt m (nth p.funs h) _ (λ f. with-opt m (args m.places k n) _ (λ xs. with-opt m (arrs_at m.act.arrs os) _ (λ as₁. goes (front_refl _) (front-more _ _))))
grown-exec p g (s_table d i t k n os) m = with-opt m (m.places i) _ (λ x. with-opt m (nth p.tables t) _ (λ hs. or_trap m (nth hs x) _ _ (λ h. with-opt m (nth p.funs h) _ (λ f. with-opt m (args m.places k n) _ (λ xs. with-opt m (arrs_at m.act.arrs os) _ (λ as₁. goes (front_refl _) (front-more _ _)))))))
grown-exec p g (s_out a) m = with-opt m _ _ (λ x. goes (front-more _ _) (front_refl _))
grown-exec p g (s_ret a) m = with-opt m (m.places a) _ (λ x. grown-leaves g x m.stack m)
grown-exec p g (s_in d) m = go m.ins
  where
    go : (xs : List ℕ) → Grown m (reads_in d xs m)
    go [] = traps (front_refl _) (front_refl _)
    go (x ∷ xs) = same m _ refl refl
grown-exec p g (s_idx d r a) m = with-opt m (m.places a) _ (λ i. with-arr m r _ (λ u c. or_trap m (nth c.cells i) _ _ (λ x. same m _ refl refl)))
grown-exec p g (s_put w r a b) m = with-opt m (m.places a) _ (λ i. with-opt m (m.places b) _ (λ n. with-arr m r _ (λ u c. or_trap m (nth c.cells i) _ _ (λ x. same m _ refl refl))))
grown-exec p g (s_len d r) m = with-arr m r _ (λ u c. same m _ refl refl)

grown-step : (p : MProg) (m : MSt) → Grown m (m_step p m)
grown-step p m = with-opt m (nth p.funs m.act.fn) _ (λ g. with-opt m (nth g.code m.pc) _ (λ c. grown-exec p g c m))

grown-more : {m m1 : MSt} {a : MNext} → Front m.outs m1.outs → Front m.calls m1.calls → Grown m1 a → Grown m a
grown-more f g stuck = stuck
grown-more f g (goes a b) = goes (front_trans f a) (front_trans g b)
grown-more f g (ends a b) = ends (front_trans f a) (front_trans g b)
grown-more f g (traps a b) = traps (front_trans f a) (front_trans g b)

pub grown : (p : MProg) (i : ℕ) (m : MSt) → Grown m (m_after p i m)
grown p zero m = goes (front_refl _) (front_refl _)
grown p (suc i) m = go (m_step p m) (grown-step p m) (grown p i)
  where
    go : (a : MNext) → Grown m a → ((z : MSt) → Grown z (m_after p i z)) → Grown m (m_then a (λ x. m_after p i x))
    go m_stuck h k = stuck
    go (m_goes z) (goes a b) k = grown-more a b (k z)
    go (m_ends x z) h k = h
    go (m_traps c z) h k = h

pub after-add : (p : MProg) (k i : ℕ) (m : MSt) → m_after p (k + i) m ≡ m_then (m_after p k m) (λ x. m_after p i x)
after-add p zero i m = rw zero-add
after-add p (suc k) i m = rw suc-add (go (m_step p m) (after-add p k i))
  where
    go : (a : MNext) → ((z : MSt) → m_after p (k + i) z ≡ m_then (m_after p k z) (λ x. m_after p i x)) → m_then a (λ x. m_after p (k + i) x) ≡ m_then (m_then a (λ x. m_after p k x)) (λ x. m_after p i x)
    go (m_goes z) h = h z
    go (m_ends x z) h = refl
    go (m_traps c z) h = refl
    go m_stuck h = refl
