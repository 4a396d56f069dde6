-- Steps that come of a checked program name only what is there.
use Rattle.std.proofs.Common.{◌≡◌, ℕ, zero, suc, ◌+◌, ◌<◌, ◌≤◌, max, Bool, true, false, List, [], ◌∷◌, ◌++◌, length, sym, refl, ap, ◌∙◌, arith, lit<}
use mathlib.Core.Option.{Option, some, none}
use Rattle.language.specs.Syntax.{pick, opt, nth, Name, same, Expr, num, var, bin, un, and1, or1, idx, len, call, by_table, input, Exprs, no, and_then, Stmt, set1, store1, ex1, out1, if1, while1, ret1, break1, next1, Block, end, seq1, Kind, k_word, k_arr, Param}
use Rattle.steps.specs.Steps.{Opnd, o_top, o_own, Step}
use Rattle.steps.specs.Generate.{own_at, at_place, unless, size_v, gen_v, ref_word, Slot, w_slot, a_slot, Ref, r_word, r_arr, find, words_of, arrays_of, slots_from, Scope, gen_arr, the_arr, arr_arg, opnds, count, size_e, size_es, size_s, size_b, need_e, need_es, need_s, need_b, gen_var, gen_set, gen_e, gen_es, gen_s, gen_b}
use Rattle.steps.specs.Fits.{Each, OpndFits, Takes, StepFits}
use Rattle.steps.proofs.Variables.{none-some, some_inj, find-lt, wides-nth, kinds}
use Rattle.steps.proofs.Match.{Env, Fun, WfVar, own, top, WfArr, own_arr, top_arr, Calls, WfE, WfEs, WfS, WfB, Linked}

pub each_++ : {A : Type 0} (P : A → Type 0) (xs ys : List A) → Each P xs → Each P ys → Each P (xs ++ ys)
each_++ P [] ys h g = g
each_++ P (x ∷ xs) ys h g = (h.0, each_++ P xs ys h.1 g)

nth_lt : {A : Type 0} (xs : List A) (i : ℕ) (x : A) → nth xs i ≡ some x → i < length xs
nth_lt [] i x e = absurd (none-some e)
nth_lt (y ∷ xs) zero x e = omega arith
nth_lt (y ∷ xs) (suc i) x e = let h = nth_lt xs i x e in omega arith

arr_is : {a b : ℕ} {w u : Bool} → some (r_arr a w) ≡ some (r_arr b u) → a ≡ b
arr_is e = cc

word-arr : {a b : ℕ} {w : Bool} → some (r_word b) ≡ some (r_arr a w) → ⊥
word-arr e = let z : ◌≡◌ {A = ℕ} 0 1 = cc in omega arith

pub find-arr : (xs : List Slot) (x : Name) (i j k : ℕ) (u : Bool) → find xs x i j ≡ some (r_arr k u) → k < j + arrays_of xs
find-arr [] x i j k u e = absurd (none-some e)
find-arr (w_slot y ∷ ys) x i j k u e = go (same y x) e (find-arr ys x (suc i) j k u)
  where
    go : (b : Bool) → pick b (some (r_word i)) (find ys x (suc i) j) ≡ some (r_arr k u) → (find ys x (suc i) j ≡ some (r_arr k u) → k < j + arrays_of ys) → k < j + arrays_of ys
    go true d h = absurd (word-arr d)
    go false d h = h d
find-arr (a_slot y w ∷ ys) x i j k u e = go (same y x) e (find-arr ys x i (suc j) k u)
  where
    go : (b : Bool) → pick b (some (r_arr j w)) (find ys x i (suc j)) ≡ some (r_arr k u) → (find ys x i (suc j) ≡ some (r_arr k u) → k < suc j + arrays_of ys) → k < j + suc (arrays_of ys)
    go true d h = let z = arr_is d in omega arith
    go false d h = let z = h d in omega arith

-- how many words and arrays
abbrev pub words_k : List Kind → ℕ
words_k [] = 0
words_k (k_word ∷ ks) = suc (words_k ks)
words_k (k_arr w ∷ ks) = words_k ks

abbrev pub arrs_k : List Kind → ℕ
arrs_k [] = 0
arrs_k (k_word ∷ ks) = arrs_k ks
arrs_k (k_arr w ∷ ks) = suc (arrs_k ks)

params-k : (qs : List Param) → (words_of (slots_from qs [] []) ≡ words_k (kinds qs)) × (arrays_of (slots_from qs [] []) ≡ arrs_k (kinds qs))
params-k [] = (refl, refl)
params-k (q ∷ qs) = go q.kind (params-k qs)
  where
    go : (k : Kind) → (words_of (slots_from qs [] []) ≡ words_k (kinds qs)) × (arrays_of (slots_from qs [] []) ≡ arrs_k (kinds qs)) → (words_of (Rattle.steps.specs.Generate.slot_of q.name k ∷ slots_from qs [] []) ≡ words_k (k ∷ kinds qs)) × (arrays_of (Rattle.steps.specs.Generate.slot_of q.name k ∷ slots_from qs [] []) ≡ arrs_k (k ∷ kinds qs))
    go k_word h = (ap suc h.0, h.1)
    go (k_arr w) h = (h.0, ap suc h.1)

need-e : (e : Expr) (Γ : Scope) → 1 ≤ need_e Γ e
need-e (num n) Γ = omega arith
need-e (var x) Γ = omega arith
need-e (bin o a b) Γ = omega arith
need-e (un o a) Γ = need-e a Γ
need-e (and1 a b) Γ = omega (arith, need-e a Γ)
need-e (or1 a b) Γ = omega (arith, need-e a Γ)
need-e (idx x e) Γ = need-e e Γ
need-e (len x) Γ = omega arith
need-e (call x es) Γ = omega arith
need-e (by_table x e es) Γ = omega arith
need-e input Γ = omega arith

pub need_pos : (b : Block) (Γ : Scope) → 1 ≤ need_b Γ b
need_pos end Γ = omega arith
need_pos (seq1 a b) Γ = omega (arith, need_pos b Γ)

pub record EsFit (v : Env) (c : Fun) (es : Exprs) (ks : List Kind) (d pc : ℕ) : Type 0 where
  pub steps : Each (StepFits v.P c.G) (gen_es c.Γ es d pc)
  pub words : count c.Γ es ≡ words_k ks
  pub arrays : length (opnds c.Γ es) ≡ arrs_k ks
  pub opnd : Each (OpndFits v.P c.G) (opnds c.Γ es)
  pub room : count c.Γ es ≤ need_es c.Γ es

module _ (v : Env) (L : Linked v) (c : Fun) (ha : arrays_of c.Γ.slots ≤ c.G.arrays + length c.G.own) where
  abbrev Fit : List Step → Type 0
  Fit = Each (StepFits v.P c.G)

  abbrev N : ℕ
  N = c.G.places

  abbrev Len : ℕ
  Len = length c.G.code

  arr_op : (x : Name) (w : Bool) → WfArr v c x w → (o : Opnd) × (gen_arr c.Γ x ≡ some o) × OpndFits v.P c.G o
  arr_op x w (own_arr k e) = let h = find-arr c.Γ.slots x 0 0 k w e in (o_own k, rw e, omega arith)
  arr_op x w (top_arr t a e r nw ar gt iw h) = let z = wides-nth v.P.arrays a w h in (o_top a, rw (e, gt, ar), nth_lt v.P.arrays a z.0 z.1)

  the_fits : (x : Name) (w : Bool) → WfArr v c x w → OpndFits v.P c.G (the_arr c.Γ x)
  the_fits x w a = let q = arr_op x w a in rw q.1 q.2

  var_fits : (x : Name) (d : ℕ) → WfVar v c x → words_of c.Γ.slots ≤ d → d < N → StepFits v.P c.G (gen_var c.Γ x d)
  var_fits x d (own k e) r h = let z = find-lt c.Γ.slots x 0 0 k e in rw e (h, omega arith)
  var_fits x d (top t i e r a z l) q h = rw (e, z, a) (h, l)

  set_fits : (x : Name) (d : ℕ) → WfVar v c x → words_of c.Γ.slots ≤ d → d < N → StepFits v.P c.G (gen_set c.Γ x d)
  set_fits x d (own k e) r h = let z = find-lt c.Γ.slots x 0 0 k e in rw e (omega arith, h)
  set_fits x d (top t i e r a z l) q h = rw (e, z, a) (l, h)

  -- a number in a table is one of its names'
  nos_back : (f : Name) (xs : List Name) (i h : ℕ) → nth (v.nos f xs) i ≡ some h → (x : Name) × (nth xs i ≡ some x) × (v.no f x ≡ h)
  nos_back f xs i h e = go (nth xs i) refl
    where
      go : (o : Option Name) → nth xs i ≡ o → (x : Name) × (nth xs i ≡ some x) × (v.no f x ≡ h)
      go none z = absurd (none-some (sym (L.nos_none f xs i z) ∙ e))
      go (some x) z = (x, z, some_inj (sym (L.nos f xs i x z) ∙ e))

  takes : (f x : Name) (ks : List Kind) (n m : ℕ) → Calls v f x ks → n ≡ words_k ks → m ≡ arrs_k ks → Takes v.P (v.no f x) n m
  takes f x ks n m k hn hm =
      let l = L.fn f x k.0 k.1 k.2 k.3 in let C = l.2 [] [] in let z = params-k k.1.params in
      (l.1, C.here, hn ∙ (ap words_k (sym k.4) ∙ (sym z.0 ∙ sym C.params)), hm ∙ (ap arrs_k (sym k.4) ∙ (sym z.1 ∙ sym C.arrays)), L.not_first f x)

  own_le : (e : Expr) (d k : ℕ) → WfE v c e → words_of c.Γ.slots ≤ d → own_at c.Γ e ≡ some k → k ≤ d
  own_le (num n) d k w r e = absurd (none-some e)
  own_le (var x) d k (own i z) r e = let q : i ≡ k = some_inj (rw z at e) in let l = find-lt c.Γ.slots x 0 0 i z in omega arith
  own_le (var x) d k (top t i z s a y l) r e = absurd (none-some (rw z at e))
  own_le (bin o a b) d k w r e = absurd (none-some e)
  own_le (un o a) d k w r e = absurd (none-some e)
  own_le (and1 a b) d k w r e = absurd (none-some e)
  own_le (or1 a b) d k w r e = absurd (none-some e)
  own_le (idx x a) d k w r e = absurd (none-some e)
  own_le (len x) d k w r e = absurd (none-some e)
  own_le (call x es) d k w r e = absurd (none-some e)
  own_le (by_table x a es) d k w r e = absurd (none-some e)
  own_le input d k w r e = absurd (none-some e)

  at_le : (e : Expr) (d : ℕ) → WfE v c e → words_of c.Γ.slots ≤ d → at_place c.Γ e d ≤ d
  at_le e d w r = go (own_at c.Γ e) refl
    where
      go : (o : Option ℕ) → own_at c.Γ e ≡ o → opt o d (λ k. k) ≤ d
      go none z = omega arith
      go (some k) z = own_le e d k w r z

  un_fits : (o : Option ℕ) (n m : ℕ) (xs : List Step) → (unless o 0 n ≡ n → Fit xs) → Fit (unless o [] xs)
  un_fits none n m xs k = k refl
  un_fits (some i) n m xs k = tt

  mutual
    pub fits_e : (e : Expr) (d pc : ℕ) → WfE v c e → words_of c.Γ.slots ≤ d → d + need_e c.Γ e ≤ N → pc + size_e c.Γ e < Len → Fit (gen_e c.Γ e d pc)
    fits_e (num n) d pc w r h l = ((omega arith, w), tt)
    fits_e (var x) d pc w r h l = (var_fits x d w r (omega arith), tt)
    fits_e (bin o a b) d pc w r h l =
        let z = need-e b c.Γ in let x = at_le a d w.0 r in let y = at_le b (suc d) w.1 (omega arith) in
        each_++ _ (gen_v c.Γ a d pc) _ (un_fits (own_at c.Γ a) (size_e c.Γ a) 0 (gen_e c.Γ a d pc) (λ q. fits_e a d pc w.0 r (omega arith) (omega arith)))
        (each_++ _ (gen_v c.Γ b (suc d) (pc + size_v c.Γ a)) _ (un_fits (own_at c.Γ b) (size_e c.Γ b) 0 (gen_e c.Γ b (suc d) (pc + size_v c.Γ a)) (λ q. fits_e b (suc d) (pc + size_v c.Γ a) w.1 (omega arith) (omega arith) (omega arith))) ((omega arith, omega arith, omega arith), tt))
    fits_e (un o a) d pc w r h l =
        let z = need-e a c.Γ in let x = at_le a d w r in
        each_++ _ (gen_v c.Γ a d pc) _ (un_fits (own_at c.Γ a) (size_e c.Γ a) 0 (gen_e c.Γ a d pc) (λ q. fits_e a d pc w r h (omega arith))) ((omega arith, omega arith), tt)
    fits_e (and1 a b) d pc w r h l = let z = need-e a c.Γ in each_++ _ (gen_e c.Γ a d pc) _ (fits_e a d pc w.0 r (omega arith) (omega arith)) ((omega arith, l), each_++ _ (gen_e c.Γ b d _) _ (fits_e b d _ w.1 r (omega arith) (omega arith)) ((omega arith, omega arith), tt))
    fits_e (or1 a b) d pc w r h l = let z = need-e a c.Γ in each_++ _ (gen_e c.Γ a d pc) _ (fits_e a d pc w.0 r (omega arith) (omega arith)) ((omega arith, omega arith), ((omega arith, lit< tt), (l, each_++ _ (gen_e c.Γ b d _) _ (fits_e b d _ w.1 r (omega arith) (omega arith)) ((omega arith, omega arith), tt))))
    fits_e (idx x e) d pc w r h l =
        let z = need-e e c.Γ in let y = at_le e d w.1 r in
        each_++ _ (gen_v c.Γ e d pc) _ (un_fits (own_at c.Γ e) (size_e c.Γ e) 0 (gen_e c.Γ e d pc) (λ q. fits_e e d pc w.1 r h (omega arith))) ((omega arith, the_fits x w.0.0 w.0.1, omega arith), tt)
    fits_e (len x) d pc w r h l = ((omega arith, the_fits x w.0 w.1), tt)
    fits_e (call x es) d pc w r h l =
        let q = fits_es es w.0 d pc w.3 r (omega arith) (omega arith) in
        let k : d + count c.Γ es ≤ N = omega (arith, q.room) in
        each_++ _ (gen_es c.Γ es d pc) _ q.steps ((omega arith, k, q.opnd, rw w.2 (takes c.file x w.0 _ _ w.1 q.words q.arrays)), tt)
    fits_e (by_table x e es) d pc w r h l =
        let u = at_le e d w.2 r in let z0 = need-e e c.Γ in
        let q = fits_es es w.0 (suc d) (pc + size_v c.Γ e) w.3 (omega arith) (omega arith) (omega arith) in
        let k : suc d + count c.Γ es ≤ N = omega (arith, q.room) in
        each_++ _ (gen_v c.Γ e d pc) _ (un_fits (own_at c.Γ e) (size_e c.Γ e) (size_es c.Γ es) (gen_e c.Γ e d pc) (λ m. fits_e e d pc w.2 r (omega arith) (omega arith))) (each_++ _ (gen_es c.Γ es (suc d) _) _ q.steps
        ((omega arith, omega arith, k, q.opnd, (_, w.1.4, λ i g z. let b = nos_back w.1.0.file w.1.1 i g z in rw (← b.2) (takes w.1.0.file b.0 w.0 _ _ (w.1.5 i b.0 b.1) q.words q.arrays))), tt))
    fits_e input d pc w r h l = (omega arith, tt)

    pub fits_es : (es : Exprs) (ks : List Kind) (d pc : ℕ) → WfEs v c es ks → words_of c.Γ.slots ≤ d → d + need_es c.Γ es ≤ N → pc + size_es c.Γ es < Len → EsFit v c es ks d pc
    fits_es no [] d pc w r h l = record { steps = tt; words = refl; arrays = refl; opnd = tt; room = omega arith }
    fits_es no (k ∷ ks) d pc w r h l = absurd w
    fits_es (and_then e es) [] d pc w r h l = absurd w
    fits_es (and_then e es) (k_word ∷ ks) d pc w r h l =
        let h1 : d + max (need_e c.Γ e) (suc (need_es c.Γ es)) ≤ N = rw w.0 at h in
        let l1 : pc + (size_e c.Γ e + size_es c.Γ es) < Len = rw w.0 at l in
        let q = fits_es es ks (suc d) (pc + size_e c.Γ e) w.2 (omega arith) (omega arith) (omega arith) in
        record { steps = rw w.0 (each_++ _ (gen_e c.Γ e d pc) _ (fits_e e d pc w.1 r (omega arith) (omega arith)) q.steps); words = rw w.0 (ap suc q.words); arrays = rw w.0 q.arrays; opnd = rw w.0 q.opnd; room = rw w.0 (omega (arith, q.room)) }
    fits_es (and_then e es) (k_arr u ∷ ks) d pc w r h l =
        let o = arr_op w.0.0 u w.0.2 in
        let z : arr_arg c.Γ e ≡ some o.0 = ap (arr_arg c.Γ) w.0.1 ∙ o.1 in
        let q = fits_es es ks d pc w.1 r (rw z at h) (rw z at l) in
        record { steps = rw z q.steps; words = rw z q.words; arrays = rw z (ap suc q.arrays); opnd = rw z (o.2, q.opnd); room = rw z q.room }

  fits_v : (e : Expr) (d pc : ℕ) → WfE v c e → words_of c.Γ.slots ≤ d → d + need_e c.Γ e ≤ N → pc + size_v c.Γ e < Len → Fit (gen_v c.Γ e d pc)
  fits_v e d pc w r h l = un_fits (own_at c.Γ e) (size_e c.Γ e) 0 (gen_e c.Γ e d pc) (λ q. fits_e e d pc w r h (omega arith))

  mutual
    pub fits_s : (a : Stmt) (l : Bool) (d brk nxt pc : ℕ) → WfS v c l a → words_of c.Γ.slots ≤ d → d + need_s c.Γ a ≤ N → pc + size_s c.Γ a < Len → brk < Len → nxt < Len → Fit (gen_s c.Γ a d brk nxt pc)
    fits_s (set1 x e) l d brk nxt pc w r h q bk nx = let z = need-e e c.Γ in each_++ _ (gen_e c.Γ e d pc) _ (fits_e e d pc w.1 r h (omega arith)) (set_fits x d w.0 r (omega arith), tt)
    fits_s (store1 x i e) l d brk nxt pc w r h q bk nx =
        let z = need-e e c.Γ in let y = at_le i d w.1 r in let u = at_le e (suc d) w.2 (omega arith) in
        each_++ _ (gen_v c.Γ i d pc) _ (fits_v i d pc w.1 r (omega arith) (omega arith)) (each_++ _ (gen_v c.Γ e (suc d) (pc + size_v c.Γ i)) _ (fits_v e (suc d) (pc + size_v c.Γ i) w.2 (omega arith) (omega arith) (omega arith)) ((the_fits x w.0.0 w.0.1, omega arith, omega arith), tt))
    fits_s (ex1 e) l d brk nxt pc w r h q bk nx = fits_e e d pc w r h q
    fits_s (out1 e) l d brk nxt pc w r h q bk nx = let z = need-e e c.Γ in let y = at_le e d w r in each_++ _ (gen_v c.Γ e d pc) _ (fits_v e d pc w r h (omega arith)) (omega arith, tt)
    fits_s (if1 e a b) l d brk nxt pc w r h q bk nx = let z = need-e e c.Γ in each_++ _ (gen_e c.Γ e d pc) _ (fits_e e d pc w.0 r (omega arith) (omega arith)) ((omega arith, omega arith), each_++ _ (gen_b c.Γ a d brk nxt _) _ (fits_b a l d brk nxt _ w.1 r (omega arith) (omega arith) bk nx) (q, fits_b b l d brk nxt _ w.2 r (omega arith) (omega arith) bk nx))
    fits_s (while1 e b) l d brk nxt pc w r h q bk nx = let z = need-e e c.Γ in (omega arith, (q, each_++ _ (gen_e c.Γ e d (pc + 2)) _ (fits_e e d (pc + 2) w.0 r (omega arith) (omega arith)) ((omega arith, omega arith), each_++ _ (gen_b c.Γ b d (pc + 1) (pc + 2) _) _ (fits_b b true d (pc + 1) (pc + 2) _ w.1 r (omega arith) (omega arith) (omega arith) (omega arith)) (omega arith, tt))))
    fits_s (ret1 e) l d brk nxt pc w r h q bk nx = let z = need-e e c.Γ in let y = at_le e d w r in each_++ _ (gen_v c.Γ e d pc) _ (fits_v e d pc w r h (omega arith)) (omega arith, tt)
    fits_s break1 l d brk nxt pc w r h q bk nx = (bk, tt)
    fits_s next1 l d brk nxt pc w r h q bk nx = (nx, tt)

    pub fits_b : (b : Block) (l : Bool) (d brk nxt pc : ℕ) → WfB v c l b → words_of c.Γ.slots ≤ d → d + need_b c.Γ b ≤ N → pc + size_b c.Γ b < Len → brk < Len → nxt < Len → Fit (gen_b c.Γ b d brk nxt pc)
    fits_b end l d brk nxt pc w r h q bk nx = tt
    fits_b (seq1 a b) l d brk nxt pc w r h q bk nx = each_++ _ (gen_s c.Γ a d brk nxt pc) _ (fits_s a l d brk nxt pc w.0 r (omega arith) (omega arith) bk nx) (fits_b b l d brk nxt _ w.1 r (omega arith) (omega arith) bk nx)
