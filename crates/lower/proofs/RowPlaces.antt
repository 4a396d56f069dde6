-- The code of all functions in one row.
use mathlib.Core.Path.{◌≡◌, refl, sym, ap, subst, ◌∙◌}
use mathlib.Core.List.{List, [], ◌∷◌, ◌++◌, append_assoc, append-nil}
use mathlib.Core.Option.{some}
use Prim.Native.Nat.{ℕ, zero, suc, ◌+◌}
use native.Mathlib.Omega.{arith}
use native.Mathlib.Nat.{add-zero, suc-add, add-suc}
use lib.ListN.{length, drop, length-append}
use Rattle.language.specs.Syntax.{opt, nth}
use Rattle.lower.specs.Lower.{Op, at_in, at_of, code_of, entry_in, entry_of, fun_of, fun_row, fun_width, funs_row, lower, o_add, o_and, o_div, o_eq, o_ge, o_gt, o_le, o_lt, o_mul, o_ne, o_or, o_rem, o_shl, o_shr, o_sub, o_xor, op_of, ops, others, pro_width, prologue, row_of, width}
use Rattle.lower.proofs.InRow.{Laid, Neat, Seg, past}
use Rattle.steps.specs.Steps.{Step, s_num, s_copy, s_bin, s_un, s_flag, s_getw, s_setw, s_jump, s_jz, s_call, s_out, s_ret, s_table, s_in, s_idx, s_put, s_len, o_top, o_own, MFn, MProg}
use Rattle.lower.proofs.Lists.{none-some}
use Rattle.lower.proofs.Instructions.{LI}

-- how many instructions a step has doesn't depend on where it stands
ops-width : (p q : ℕ) (o : Op) → length (ops p o) ≡ length (ops q o)
ops-width p q o_add = refl
ops-width p q o_sub = refl
ops-width p q o_mul = refl
ops-width p q o_div = refl
ops-width p q o_rem = refl
ops-width p q o_eq = refl
ops-width p q o_ne = refl
ops-width p q o_lt = refl
ops-width p q o_le = refl
ops-width p q o_gt = refl
ops-width p q o_ge = refl
ops-width p q o_and = refl
ops-width p q o_or = refl
ops-width p q o_xor = refl
ops-width p q o_shl = refl
ops-width p q o_shr = refl

pub width_is : (en at : ℕ → ℕ) (m : MProg) (f : MFn) (p : ℕ) (s : Step) → length (lower en at m f p s) ≡ width m f s
width_is en at m f p (s_num d n) = refl
width_is en at m f p (s_copy d a) = refl
width_is en at m f p (s_bin o d a b) = ap (λ n. suc (suc n)) (length-append (ops (suc (suc p)) (op_of o)) _ ∙ ap (λ n. n + 1) (ops-width (suc (suc p)) 2 (op_of o)) ∙ sym (length-append (ops 2 (op_of o)) _))
width_is en at m f p (s_un o d a) = refl
width_is en at m f p (s_flag d a) = refl
width_is en at m f p (s_getw d i) = refl
width_is en at m f p (s_setw i a) = refl
width_is en at m f p (s_jump t) = refl
width_is en at m f p (s_jz a t) = refl
width_is en at m f p (s_call d g k n os) = simp length-append
width_is en at m f p (s_out a) = refl
width_is en at m f p (s_ret a) = refl
width_is en at m f p (s_table d i t k n os) = refl
width_is en at m f p (s_in d) = refl
width_is en at m f p (s_idx d (o_top a) i) = refl
width_is en at m f p (s_idx d (o_own j) i) = refl
width_is en at m f p (s_put w (o_top a) i b) = refl
width_is en at m f p (s_put w (o_own j) i b) = refl
width_is en at m f p (s_len d (o_top a)) = refl
width_is en at m f p (s_len d (o_own j)) = refl

pub past_is : (p : ℕ) (xs : List LI) → past p xs ≡ p + length xs
past_is p [] = sym (add-zero p)
past_is p (x ∷ xs) = past_is (suc p) xs ∙ (suc-add p (length xs) ∙ sym (add-suc p (length xs)))

-- what stands at a place
nth_drop : (xs : List LI) (p : ℕ) (x : LI) (zs : List LI) → drop p xs ≡ x ∷ zs → (nth xs p ≡ some x) × (drop (suc p) xs ≡ zs)
nth_drop [] zero x zs h = absurd (let z : ◌≡◌ {A = ℕ} 0 1 = cc in omega arith)
nth_drop [] (suc p) x zs h = absurd (let z : ◌≡◌ {A = ℕ} 0 1 = cc in omega arith)
nth_drop (y ∷ xs) zero x zs h = (cc, cc)
nth_drop (y ∷ xs) (suc p) x zs h = nth_drop xs p x zs h

stands : (row : List LI) (p : ℕ) (xs zs : List LI) → drop p row ≡ xs ++ zs → Seg row p xs
stands row p [] zs h = tt
stands row p (x ∷ xs) zs h = let (a, b) = nth_drop row p x (xs ++ zs) h in (a, stands row (suc p) xs zs b)

behind : (row : List LI) (p : ℕ) (xs zs : List LI) → drop p row ≡ xs ++ zs → drop (p + length xs) row ≡ zs
behind row p [] zs h = ap (λ n. drop n row) (add-zero p) ∙ h
behind row p (x ∷ xs) zs h = let (a, b) = nth_drop row p x (xs ++ zs) h in let z : p + suc (length xs) ≡ suc p + length xs = omega arith in ap (λ n. drop n row) z ∙ behind row (suc p) xs zs b

pub code-width : (en at en1 at1 : ℕ → ℕ) (m : MProg) (f : MFn) (ss : List Step) (q q1 : ℕ) → length (code_of en at m f ss q) ≡ length (code_of en1 at1 m f ss q1)
code-width en at en1 at1 m f [] q q1 = refl
code-width en at en1 at1 m f (s ∷ ss) q q1 =
    let a : length (lower en at m f q s ++ code_of en at m f ss (q + width m f s)) ≡ length (lower en at m f q s) + length (code_of en at m f ss (q + width m f s)) = length-append _ _ in
    let b : length (lower en1 at1 m f q1 s ++ code_of en1 at1 m f ss (q1 + width m f s)) ≡ length (lower en1 at1 m f q1 s) + length (code_of en1 at1 m f ss (q1 + width m f s)) = length-append _ _ in
    omega (arith, a, b, width_is en at m f q s, width_is en1 at1 m f q1 s, code-width en at en1 at1 m f ss (q + width m f s) (q1 + width m f s))

pub fun_width-is : (en : ℕ → ℕ) (m : MProg) (f : MFn) (q : ℕ) → length (fun_row en m f q) ≡ fun_width m f
fun_width-is en m f q =
    let a : length (fun_row en m f q) ≡ length (prologue q f) + _ = length-append (prologue q f) _ in
    let b : fun_width m f ≡ length (prologue 0 f) + _ = length-append (prologue 0 f) _ in
    a ∙ ap (λ n. pro_width f + n) (code-width en _ (λ g. 0) _ m f f.code _ _) ∙ sym b

-- a step stands where it should
steps_stand : (en at : ℕ → ℕ) (m : MProg) (f : MFn) (row : List LI) (ss : List Step) (q : ℕ) (zs : List LI) → drop q row ≡ code_of en at m f ss q ++ zs → (i : ℕ) (s : Step) → nth ss i ≡ some s → Seg row (at_of m f ss q i) (lower en at m f (at_of m f ss q i) s)
steps_stand en at m f row [] q zs h i s k = none-some s k
steps_stand en at m f row (t ∷ ss) q zs h zero s k = let e : t ≡ s = cc in rw e at (stands row q (lower en at m f q t) (code_of en at m f ss (q + width m f t) ++ zs) (h ∙ append_assoc (lower en at m f q t) (code_of en at m f ss (q + width m f t)) zs))
steps_stand en at m f row (t ∷ ss) q zs h (suc i) s k = steps_stand en at m f row ss (q + width m f t) zs (ap (λ n. drop (q + n) row) (sym (width_is en at m f q t)) ∙ behind row q (lower en at m f q t) (code_of en at m f ss (q + width m f t) ++ zs) (h ∙ append_assoc (lower en at m f q t) (code_of en at m f ss (q + width m f t)) zs)) i s k

at_next : (m : MProg) (f : MFn) (ss : List Step) (q i : ℕ) (s : Step) → nth ss i ≡ some s → at_of m f ss q i + width m f s ≡ at_of m f ss q (suc i)
at_next m f [] q i s k = none-some s k
at_next m f (t ∷ []) q zero s k = let e : t ≡ s = cc in ap (λ x. q + width m f x) (sym e)
at_next m f (t ∷ u ∷ ss) q zero s k = let e : t ≡ s = cc in ap (λ x. q + width m f x) (sym e)
at_next m f (t ∷ ss) q (suc i) s k = at_next m f ss (q + width m f t) i s k

-- and a function
funs_stand : (en : ℕ → ℕ) (m : MProg) (row : List LI) (fs : List MFn) (q : ℕ) (zs : List LI) → drop q row ≡ funs_row en m fs q ++ zs → (g : ℕ) (f : MFn) → nth fs g ≡ some f → (ys : List LI) × (drop (entry_of m fs q g) row ≡ fun_row en m f (entry_of m fs q g) ++ ys)
funs_stand en m row [] q zs h g f k = none-some f k
funs_stand en m row (t ∷ fs) q zs h zero f k = let e : t ≡ f = cc in (funs_row en m fs (q + fun_width m t) ++ zs, subst (λ x. drop q row ≡ fun_row en m x q ++ (funs_row en m fs (q + fun_width m t) ++ zs)) e (h ∙ append_assoc (fun_row en m t q) (funs_row en m fs (q + fun_width m t)) zs))
funs_stand en m row (t ∷ fs) q zs h (suc g) f k = funs_stand en m row fs (q + fun_width m t) zs (ap (λ n. drop (q + n) row) (sym (fun_width-is en m t q)) ∙ behind row q (fun_row en m t q) (funs_row en m fs (q + fun_width m t) ++ zs) (h ∙ append_assoc (fun_row en m t q) (funs_row en m fs (q + fun_width m t)) zs)) g f k

at_first : (m : MProg) (f : MFn) (ss : List Step) (q : ℕ) → at_of m f ss q 0 ≡ q
at_first m f [] q = refl
at_first m f (s ∷ ss) q = refl

module _ (m : MProg) (main : ℕ) where
  abbrev code_in : MFn → ℕ → List LI
  code_in f q = code_of (entry_in m) (at_of m f f.code (q + pro_width f)) m f f.code (q + pro_width f)

  fun_at : (g : ℕ) (f : MFn) → fun_of m g ≡ some f → (ys : List LI) × (drop (entry_in m g) (row_of m main) ≡ prologue (entry_in m g) f ++ (code_in f (entry_in m g) ++ ys))
  fun_at zero f k = none-some f k
  fun_at (suc g) f k =
      let (ys, h) = funs_stand (entry_in m) m (row_of m main) (others m.funs) 6 [] (sym (append-nil (funs_row (entry_in m) m (others m.funs) 6))) g f k in
      (ys, h ∙ append_assoc (prologue (entry_in m (suc g)) f) (code_in f (entry_in m (suc g))) ys)

  code_at : (g : ℕ) (f : MFn) → fun_of m g ≡ some f → (ys : List LI) × (drop (entry_in m g + pro_width f) (row_of m main) ≡ code_in f (entry_in m g) ++ ys)
  code_at g f k = let (ys, h) = fun_at g f k in (ys, behind (row_of m main) (entry_in m g) (prologue (entry_in m g) f) (code_in f (entry_in m g) ++ ys) h)

  pub laid : ((g : ℕ) (f : MFn) → fun_of m g ≡ some f → Neat m f) → Laid m (row_of m main) (entry_in m) (at_in m) 4
  laid good =
      record {
        begins = λ g f k. let (ys, h) = fun_at g f k in stands (row_of m main) (entry_in m g) (prologue (entry_in m g) f) (code_in f (entry_in m g) ++ ys) h;
        first = λ g f k. past_is (entry_in m g) (prologue (entry_in m g) f) ∙ (sym (at_first m f f.code (entry_in m g + pro_width f)) ∙ ap (λ o. opt o 0 (λ x. at_of m x x.code (entry_in m g + pro_width x) 0)) (sym k));
        has = λ g i f s k l. let (ys, h) = code_at g f k in subst (λ o. Seg (row_of m main) (opt o 0 (λ x. at_of m x x.code (entry_in m g + pro_width x) i)) (lower (entry_in m) (λ j. opt o 0 (λ x. at_of m x x.code (entry_in m g + pro_width x) j)) m f (opt o 0 (λ x. at_of m x x.code (entry_in m g + pro_width x) i)) s)) (sym k) (steps_stand (entry_in m) (at_of m f f.code (entry_in m g + pro_width f)) m f (row_of m main) f.code (entry_in m g + pro_width f) ys h i s l);
        goes_on = λ g i f s k l. past_is (at_in m g i) (lower (entry_in m) (at_in m g) m f (at_in m g i) s) ∙ (ap (λ n. at_in m g i + n) (width_is (entry_in m) (at_in m g) m f (at_in m g i) s) ∙ subst (λ o. opt o 0 (λ x. at_of m x x.code (entry_in m g + pro_width x) i) + width m f s ≡ opt o 0 (λ x. at_of m x x.code (entry_in m g + pro_width x) (suc i))) (sym k) (at_next m f f.code (entry_in m g + pro_width f) i s l));
        neat = good;
        ends = (refl, (refl, tt));
      }
