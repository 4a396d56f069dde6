-- Whatever steps come to, places, words, arrays and what is left to read hold words.
use Rattle.std.proofs.Common.{◌≡◌, ℕ, zero, suc, ◌+◌, ◌-◌, ◌*◌, ◌/◌, ◌%◌, ◌^◌, ◌<◌, ◌≤◌, Bool, true, false, not, ◌&&◌, ◌||◌, eqb, ltb, leb, List, [], ◌∷◌, ◌++◌, length, take, replicate, refl, subst, mod-lt, pow-suc, div-le_self, arith, lit<, lit≤}
use mathlib.Core.Option.{Option, some, none}
use native.Mathlib.Nat.{mod-le}
use lib.ListN.{length-replicate}
use Rattle.language.specs.Syntax.{pick, opt, nth, put}
use Rattle.language.specs.Words.{all, bit, odd, bits, xor1}
use Rattle.language.specs.Meaning.{on_some, Cells, div0, binary, single}
use Rattle.steps.specs.Steps.{Opnd, Step, s_num, s_copy, s_bin, s_un, s_flag, s_getw, s_setw, s_jump, s_jz, s_call, s_table, s_out, s_ret, s_in, s_idx, s_put, s_len, Shape, MFn, MProg, Places, upd, Saved, MSt, MNext, m_goes, m_ends, m_traps, m_stuck, to, args, arr_at, arrs_at, entry, fresh, enters, leaves, with_place, with_array, reads_in, exec, m_step, m_then, m_after, m_begin}
use Rattle.steps.specs.Fits.{Each, Small, StepFits, FnFits, CellsFit, ProgFits, PlacesSmall, StFits}
use Rattle.steps.proofs.Variables.{none-some, some_inj}
use Rattle.steps.proofs.Statements.{length-put}
use Rattle.steps.proofs.Fits.{each_++}

pick1 : {A : Type 0} (P : A → Type 0) (t : Bool) {a b : A} → P a → P b → P (pick t a b)
pick1 P true h g = h
pick1 P false h g = g

bit_le : (b : Bool) → bit b ≤ 1
bit_le true = lit≤ tt
bit_le false = lit≤ tt

bit-lt : (b : Bool) → bit b < all
bit-lt true = lit< tt
bit-lt false = lit< tt

bits-lt : (f : Bool → Bool → Bool) (n x y : ℕ) → bits f n x y < 2 ^ n
bits-lt f zero x y = lit< tt
bits-lt f (suc n) x y = rw pow-suc (omega (arith, bit_le (f (odd x) (odd y)), bits-lt f n (x / 2) (y / 2)))

low : (x : ℕ) → x % all < all
low x = mod-lt x (lit< tt)

pub binary-lt : (o x y : ℕ) → x < all → y < all → binary o x y < all
unfolding binary
binary-lt o x y h g =
    let P : ℕ → Type 0 = λ n. n < all in
    pick1 P (eqb o 0) (low (x + y)) (pick1 P (eqb o 1) (low ((x + all) - y)) (pick1 P (eqb o 2) (low (x * y))
    (pick1 P (eqb o 3) (omega (arith, div-le_self x y)) (pick1 P (eqb o 4) (omega (arith, mod-le x y))
    (pick1 P (eqb o 5) (bit-lt (eqb x y)) (pick1 P (eqb o 6) (bit-lt (not (eqb x y))) (pick1 P (eqb o 7) (bit-lt (ltb x y)) (pick1 P (eqb o 8) (bit-lt (leb x y)) (pick1 P (eqb o 9) (bit-lt (ltb y x)) (pick1 P (eqb o 10) (bit-lt (leb y x))
    (pick1 P (eqb o 11) (bits-lt (λ a b. a && b) 32 x y) (pick1 P (eqb o 12) (bits-lt (λ a b. a || b) 32 x y) (pick1 P (eqb o 13) (bits-lt xor1 32 x y)
    (pick1 P (eqb o 14) (pick1 P (ltb y 32) (low (x * 2 ^ (y % 32))) (lit< tt)) (pick1 P (ltb y 32) (omega (arith, div-le_self x (2 ^ (y % 32)))) (lit< tt))))))))))))))))

pub single-lt : (o x : ℕ) → x < all → single o x < all
unfolding single
single-lt o x h = let P : ℕ → Type 0 = λ n. n < all in pick1 P (eqb o 0) (low ((0 + all) - x)) (pick1 P (eqb o 1) (bit-lt (eqb x 0)) (low ((4294967295 + all) - x)))

-- lists
module _ {A : Type 0} (P : A → Type 0) where
  pub each_nth : (xs : List A) (i : ℕ) (x : A) → Each P xs → nth xs i ≡ some x → P x
  each_nth [] i x h e = absurd (none-some e)
  each_nth (y ∷ xs) zero x h e = subst P (some_inj e) h.0
  each_nth (y ∷ xs) (suc i) x h e = each_nth xs i x h.1 e

  pub each_put : (xs : List A) (i : ℕ) (x : A) → Each P xs → P x → Each P (put xs i x)
  each_put [] i x h g = tt
  each_put (y ∷ xs) zero x h g = (g, h.1)
  each_put (y ∷ xs) (suc i) x h g = (h.0, each_put xs i x h.1 g)

  pub each_take : (n : ℕ) (xs : List A) → Each P xs → Each P (take n xs)
  each_take zero xs h = tt
  each_take (suc n) [] h = tt
  each_take (suc n) (x ∷ xs) h = (h.0, each_take n xs h.1)

  pub each_replicate : (n : ℕ) (x : A) → P x → Each P (replicate n x)
  each_replicate zero x h = tt
  each_replicate (suc n) x h = (h, each_replicate n x h)

pub zero-small : Small 0
zero-small = lit< tt

upd-small : (ps : Places) (d x : ℕ) → PlacesSmall ps → Small x → PlacesSmall (upd ps d x)
unfolding upd
upd-small ps d x h g i y e = go (eqb i d) e
  where
    go : (b : Bool) → pick b (some x) (ps i) ≡ some y → Small y
    go true z = let u : x ≡ y = some_inj z in subst Small u g
    go false z = h i y z

args-small : (ps : Places) (k n : ℕ) (xs : List ℕ) → PlacesSmall ps → args ps k n ≡ some xs → Each Small xs
args-small ps k zero xs h e = subst (Each Small) (some_inj e) tt
args-small ps k (suc n) xs h e = go (ps k) (args ps (suc k) n) refl refl e (λ ys. args-small ps (suc k) n ys h)
  where
    go : (o : Option ℕ) (r : Option (List ℕ)) → ps k ≡ o → args ps (suc k) n ≡ r → on_some o (λ x. on_some r (λ ys. some (x ∷ ys))) ≡ some xs → ((ys : List ℕ) → args ps (suc k) n ≡ some ys → Each Small ys) → Each Small xs
    go none r p q z f = absurd (none-some z)
    go (some x) none p q z f = absurd (none-some z)
    go (some x) (some ys) p q z f = subst (Each Small) (some_inj z) (h k x p, f ys q)

entry-small : (g : MFn) (xs : List ℕ) → Each Small xs → PlacesSmall (entry g xs)
entry-small g xs h i x e = each_nth Small (xs ++ replicate g.vars 0) i x (each_++ Small xs (replicate g.vars 0) h (each_replicate Small g.vars 0 zero-small)) e

fresh-small : (zs : List Shape) → Each (λ z. Small z.size) zs → Each CellsFit (fresh zs)
fresh-small [] h = tt
fresh-small (z ∷ zs) h = ((each_replicate Small z.size 0 zero-small, rw (length-replicate {A = ℕ} z.size 0) h.0), fresh-small zs h.1)

-- what a step may come to
data Good : MNext → Type 0 where
  stuck : Good m_stuck
  goes : {z : MSt} → StFits z → Good (m_goes z)
  ends : {x : ℕ} {z : MSt} → Good (m_ends x z)
  traps : {x : ℕ} {z : MSt} → Good (m_traps x z)

on-opt : {A : Type 0} (o : Option A) (n : MNext) (f : A → MNext) → Good n → ((x : A) → o ≡ some x → Good (f x)) → Good (opt o n f)
on-opt none n f h k = h
on-opt (some x) n f h k = k x refl

module _ (P : MProg) (pf : ProgFits P) (g : MFn) (gf : FnFits P g) (m : MSt) (h : StFits m) where
  at_place : (a : ℕ) (f : ℕ → MNext) → ((x : ℕ) → Small x → Good (f x)) → Good (with_place m a f)
  at_place a f k = on-opt (m.places a) m_stuck f stuck (λ x e. k x (h.places a x e))

  at_array : (o : Opnd) (f : ℕ → Cells → MNext) → ((u : ℕ) (c : Cells) → CellsFit c → Good (f u c)) → Good (with_array m o f)
  at_array o f k = on-opt (arr_at m.act.arrs o) m_stuck _ stuck (λ u e. on-opt (nth m.arrays u) m_stuck _ stuck (λ c z. k u c (each_nth CellsFit m.arrays u c h.cells z)))

  sets : (pc d x : ℕ) → Small x → Good (m_goes (to m pc (upd m.places d x)))
  sets pc d x s = goes (record { places = upd-small m.places d x h.places s; stack = h.stack; words = h.words; cells = h.cells; ins = h.ins })

  on_to : (pc : ℕ) → Good (m_goes (to m pc m.places))
  on_to pc = goes (record { places = h.places; stack = h.stack; words = h.words; cells = h.cells; ins = h.ins })

  calls_in : (i d k n : ℕ) (os : List Opnd) → Good (opt (nth P.funs i) m_stuck (λ f. opt (args m.places k n) m_stuck (λ xs. opt (arrs_at m.act.arrs os) m_stuck (λ as₁. m_goes (enters f i d xs as₁ m)))))
  calls_in i d k n os =
      on-opt (nth P.funs i) _ _ stuck λ f e. on-opt (args m.places k n) _ _ stuck λ xs z. on-opt (arrs_at m.act.arrs os) _ _ stuck λ as₁ u.
      goes (record { places = entry-small f xs (args-small m.places k n xs h.places z); stack = (h.places, h.stack); words = h.words; cells = each_++ CellsFit m.arrays (fresh f.own) h.cells (fresh-small f.own (each_nth (FnFits P) P.funs i f pf.funs e).sizes); ins = h.ins })

  leaves_ok : (x : ℕ) (fs : List Saved) → Small x → Each (λ f. PlacesSmall f.places) fs → Good (leaves g x fs m)
  leaves_ok x [] s k = ends
  leaves_ok x (f ∷ fs) s k = goes (record { places = upd-small f.places f.dest x k.0 s; stack = k.1; words = h.words; cells = each_take CellsFit _ m.arrays h.cells; ins = h.ins })

  reads_ok : (d : ℕ) (xs : List ℕ) → Each Small xs → Good (reads_in d xs m)
  reads_ok d [] k = traps
  reads_ok d (x ∷ xs) k = goes (record { places = upd-small m.places d x h.places k.0; stack = h.stack; words = h.words; cells = h.cells; ins = k.1 })

  or_trap : (b : Bool) (c : ℕ) (z : MNext) → Good z → Good (pick b (m_traps c m) z)
  or_trap true c z k = traps
  or_trap false c z k = k

  byte_or : (w : Bool) (n : ℕ) → Small n → Small (pick w n (n % 256))
  byte_or w n s = pick1 Small w s (omega (arith, mod-le n 256))

  exec_ok : (c : Step) → StepFits P g c → Good (exec P g c m)
  exec_ok (s_num d n) f = sets _ d n f.1
  exec_ok (s_copy d a) f = at_place a _ (λ x s. sets _ d x s)
  exec_ok (s_bin o d a b) f = at_place a _ (λ x s. at_place b _ (λ y t. or_trap (div0 o y) 2 _ (sets _ d (binary o x y) (binary-lt o x y s t))))
  exec_ok (s_un o d a) f = at_place a _ (λ x s. sets _ d (single o x) (single-lt o x s))
  exec_ok (s_flag d a) f = at_place a _ (λ x s. sets _ d (bit (not (eqb x 0))) (bit-lt _))
  exec_ok (s_getw d i) f = on-opt (nth m.words i) _ _ stuck (λ x e. sets _ d x (each_nth Small m.words i x h.words e))
  exec_ok (s_setw i a) f = at_place a _ (λ x s. goes (record { places = h.places; stack = h.stack; words = each_put Small m.words i x h.words s; cells = h.cells; ins = h.ins }))
  exec_ok (s_jump t) f = on_to t
  exec_ok (s_jz a t) f = at_place a _ (λ x s. on_to _)
  exec_ok (s_call d i k n os) f = calls_in i d k n os
  exec_ok (s_table d i t k n os) f = at_place i _ (λ x s. on-opt (nth P.tables t) _ _ stuck (λ hs e. on-opt (nth hs x) _ _ traps (λ j z. calls_in j d k n os)))
  exec_ok (s_out a) f = at_place a _ (λ x s. goes (record { places = h.places; stack = h.stack; words = h.words; cells = h.cells; ins = h.ins }))
  exec_ok (s_ret a) f = at_place a _ (λ x s. leaves_ok x m.stack s h.stack)
  exec_ok (s_in d) f = reads_ok d m.ins h.ins
  exec_ok (s_idx d o a) f = at_place a _ (λ i s. at_array o _ (λ u c k. on-opt (nth c.cells i) _ _ traps (λ x e. sets _ d x (each_nth Small c.cells i x k.0 e))))
  exec_ok (s_put w o a b) f = at_place a _ (λ i s. at_place b _ (λ n t. at_array o _ (λ u c k. on-opt (nth c.cells i) _ _ traps (λ x e. goes (record { places = h.places; stack = h.stack; words = h.words; cells = each_put CellsFit m.arrays u _ h.cells (each_put Small c.cells i _ k.0 (byte_or w n t), rw (length-put c.cells i (pick w n (n % 256))) k.1); ins = h.ins })))))
  exec_ok (s_len d o) f = at_array o _ (λ u c k. sets _ d (length c.cells) k.1)

step_ok : (P : MProg) → ProgFits P → (m : MSt) → StFits m → Good (m_step P m)
step_ok P pf m h = on-opt (nth P.funs m.act.fn) _ _ stuck (λ g e. let gf = each_nth (FnFits P) P.funs m.act.fn g pf.funs e in on-opt (nth g.code m.pc) _ _ stuck (λ c z. exec_ok P pf g gf m h c (each_nth (StepFits P g) g.code m.pc c gf.steps z)))

after-ok : (P : MProg) → ProgFits P → (k : ℕ) (m : MSt) → StFits m → Good (m_after P k m)
after-ok P pf zero m h = goes h
after-ok P pf (suc k) m h = go (m_step P m) (step_ok P pf m h) (after-ok P pf k)
  where
    go : (a : MNext) → Good a → ((z : MSt) → StFits z → Good (m_after P k z)) → Good (m_then a (λ x. m_after P k x))
    go m_stuck q f = stuck
    go (m_goes z) (goes s) f = f z s
    go (m_ends x z) q f = ends
    go (m_traps x z) q f = traps

good-goes : {z : MSt} → Good (m_goes z) → StFits z
good-goes (goes s) = s

pub small-run : (P : MProg) → ProgFits P → (ins : List ℕ) → Each Small ins → (k : ℕ) (z : MSt) → m_after P k (m_begin P ins) ≡ m_goes z → StFits z
small-run P pf ins i k z e = good-goes (subst Good e (after-ok P pf k (m_begin P ins) (record { places = λ j x q. absurd (none-some q); stack = tt; words = each_replicate Small P.words 0 zero-small; cells = pf.cells; ins = i })))
