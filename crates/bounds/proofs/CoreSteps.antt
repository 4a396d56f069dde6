-- The steps of a program of stage 0, and what else code that lowers them takes for granted.
use mathlib.Core.Path.{◌≡◌, refl}
use mathlib.Core.Bool.{Bool, true, false, ◌&&◌}
use mathlib.Core.List.{List, [], ◌∷◌, ◌++◌}
use mathlib.Core.Option.{Option, some, none}
use Prim.Native.Nat.{ℕ, zero, suc, ◌+◌, ◌≤◌, ◌<◌}
use native.Mathlib.Omega.{arith}
use lib.ListN.{length}
use lib.Dec.{T, leb}
use borrow.Author.Tests.{le-leb}
use Rattle.language.specs.Syntax.{opt, Name, Expr, num, var, bin, un, and1, or1, idx, len, call, by_table, input, Exprs, no, and_then, Stmt, set1, store1, ex1, out1, if1, while1, ret1, break1, next1, Block, end, seq1, Fn, Prog, stage_e, stage_es, stage_s, stage_b, stage}
use Rattle.language.specs.Meaning.{on_some, as_word, all_tops, as_fn, as_table}
use Rattle.language.specs.Checks.{ok}
use Rattle.grammar.specs.Text.{Reads}
use Rattle.steps.specs.Steps.{Opnd, Step, s_num, s_copy, s_bin, s_un, s_flag, s_getw, s_setw, s_jump, s_jz, s_call, s_table, s_out, s_ret, s_in, s_idx, s_put, s_len, MFn}
use Rattle.steps.specs.Generate.{Scope, Ref, r_word, r_arr, find, arr_arg, own_at, unless, size_e, size_v, size_s, size_b, copies, sets_to, gen_var, gen_set, gen_e, gen_es, gen_v, gen_s, gen_b, words_of, slots_of, scope, fn_nos, gen_fn, gen_prog}
use Rattle.steps.specs.Fits.{Each, StepFits, Takes, FnFits, ProgFits}
use Rattle.steps.proofs.Fits.{each_++}
use Rattle.steps.proofs.FitsHold.{fits_hold}
use Rattle.steps.proofs.PlacesBound.{room-holds}
use Rattle.lower.specs.Lower.{fun_of, others, main_no}
use Rattle.lower.specs.Core.{no_arrays, core_step, CoreFn, Core, CorePrograms}
use Rattle.lower.proofs.Lists.{none-some, nth_low}
use Rattle.lower.proofs.Tame.{each_nth, Plain, Few, called, few_all, plain_of, bare_low}
use Rattle.lower.proofs.Correct.{compiled_short}
use Rattle.lower.specs.Correct.{Bare}
use Rattle.bounds.proofs.WordCount.{few_words}
use Rattle.bounds.proofs.CoreTops.{CoreTop, of-program, program-no-arrays, none_sorted, each_sorted, all_map}

-- the steps of stage 0, whatever a call passes
abbrev plain_step : Step → Bool
plain_step (s_num d n) = true
plain_step (s_copy d a) = true
plain_step (s_bin o d a b) = true
plain_step (s_un o d a) = true
plain_step (s_flag d a) = true
plain_step (s_getw d i) = true
plain_step (s_setw i a) = true
plain_step (s_jump t) = true
plain_step (s_jz a t) = true
plain_step (s_call d h k n os) = true
plain_step (s_table d i t k n os) = false
plain_step (s_out a) = true
plain_step (s_ret a) = true
plain_step (s_in d) = false
plain_step (s_idx d o i) = false
plain_step (s_put w o i a) = false
plain_step (s_len d o) = false

abbrev AllPlain : List Step → Type 0
AllPlain ss = Each (λ s. plain_step s ≡ true) ss

plain_both : (xs ys : List Step) → AllPlain xs → AllPlain ys → AllPlain (xs ++ ys)
plain_both xs ys h k = each_++ (λ s. plain_step s ≡ true) xs ys h k

module _ (Γ : Scope) where
  plain_var : (x : Name) (d : ℕ) → plain_step (gen_var Γ x d) ≡ true
  plain_var x d = go (find Γ.slots x 0 0) (on_some (Γ.top x) as_word)
    where
      go : (o : Option Ref) (w : Option ℕ) → plain_step (opt o (opt w (s_num d 0) (s_getw d)) (copies d)) ≡ true
      go none none = refl
      go none (some i) = refl
      go (some (r_word k)) w = refl
      go (some (r_arr j u)) w = refl

  plain_set : (x : Name) (d : ℕ) → plain_step (gen_set Γ x d) ≡ true
  plain_set x d = go (find Γ.slots x 0 0) (on_some (Γ.top x) as_word)
    where
      go : (o : Option Ref) (w : Option ℕ) → plain_step (opt o (opt w (s_num d 0) (λ i. s_setw i d)) (sets_to d)) ≡ true
      go none none = refl
      go none (some i) = refl
      go (some (r_word k)) w = refl
      go (some (r_arr j u)) w = refl

  plain_unless : (o : Option ℕ) (xs : List Step) → AllPlain xs → AllPlain (unless o [] xs)
  plain_unless none xs h = h
  plain_unless (some k) xs h = tt

  plain_arg : (o : Option Opnd) (xs ys zs : List Step) → AllPlain xs → AllPlain ys → AllPlain zs → AllPlain (opt o (xs ++ ys) (λ a. zs))
  plain_arg none xs ys zs h k l = plain_both xs ys h k
  plain_arg (some a) xs ys zs h k l = l

  mutual
    plain_e : (e : Expr) (d pc : ℕ) → stage_e e ≡ 0 → AllPlain (gen_e Γ e d pc)
    plain_e (num n) d pc h = (refl, tt)
    plain_e (var x) d pc h = (plain_var x d, tt)
    plain_e (bin o a b) d pc h = plain_both (gen_v Γ a d pc) _ (plain_unless (own_at Γ a) _ (plain_e a d pc (omega (arith, h)))) (plain_both (gen_v Γ b (suc d) (pc + size_v Γ a)) _ (plain_unless (own_at Γ b) _ (plain_e b (suc d) (pc + size_v Γ a) (omega (arith, h)))) (refl, tt))
    plain_e (un o a) d pc h = plain_both (gen_v Γ a d pc) _ (plain_unless (own_at Γ a) _ (plain_e a d pc h)) (refl, tt)
    plain_e (and1 a b) d pc h = plain_both (gen_e Γ a d pc) _ (plain_e a d pc (omega (arith, h))) (refl, plain_both (gen_e Γ b d (suc (pc + size_e Γ a))) _ (plain_e b d (suc (pc + size_e Γ a)) (omega (arith, h))) (refl, tt))
    plain_e (or1 a b) d pc h = plain_both (gen_e Γ a d pc) _ (plain_e a d pc (omega (arith, h))) (refl, (refl, (refl, plain_both (gen_e Γ b d (suc (suc (suc (pc + size_e Γ a))))) _ (plain_e b d (suc (suc (suc (pc + size_e Γ a)))) (omega (arith, h))) (refl, tt))))
    plain_e (idx x e) d pc h = absurd (let z : ⊥ = omega arith in z)
    plain_e (len x) d pc h = absurd (let z : ⊥ = omega arith in z)
    plain_e (call x es) d pc h = plain_both (gen_es Γ es d pc) _ (plain_es es d pc h) (refl, tt)
    plain_e (by_table x e es) d pc h = absurd (let z : ⊥ = omega arith in z)
    plain_e input d pc h = absurd (let z : ⊥ = omega arith in z)

    plain_es : (es : Exprs) (d pc : ℕ) → stage_es es ≡ 0 → AllPlain (gen_es Γ es d pc)
    plain_es no d pc h = tt
    plain_es (and_then e es) d pc h = plain_arg (arr_arg Γ e) (gen_e Γ e d pc) (gen_es Γ es (suc d) (pc + size_e Γ e)) (gen_es Γ es d pc) (plain_e e d pc (omega (arith, h))) (plain_es es (suc d) (pc + size_e Γ e) (omega (arith, h))) (plain_es es d pc (omega (arith, h)))

  plain_v : (e : Expr) (d pc : ℕ) → stage_e e ≡ 0 → AllPlain (gen_v Γ e d pc)
  plain_v e d pc h = plain_unless (own_at Γ e) (gen_e Γ e d pc) (plain_e e d pc h)

  mutual
    plain_s : (s : Stmt) (d brk nxt pc : ℕ) → stage_s s ≡ 0 → AllPlain (gen_s Γ s d brk nxt pc)
    plain_s (set1 x e) d brk nxt pc h = plain_both (gen_e Γ e d pc) _ (plain_e e d pc h) (plain_set x d, tt)
    plain_s (store1 x i e) d brk nxt pc h = absurd (let z : ⊥ = omega arith in z)
    plain_s (ex1 e) d brk nxt pc h = plain_e e d pc h
    plain_s (out1 e) d brk nxt pc h = plain_both (gen_v Γ e d pc) _ (plain_v e d pc h) (refl, tt)
    plain_s (if1 e b c) d brk nxt pc h = plain_both (gen_e Γ e d pc) _ (plain_e e d pc (omega (arith, h))) (refl, plain_both (gen_b Γ b d brk nxt (suc (pc + size_e Γ e))) _ (plain_b b d brk nxt (suc (pc + size_e Γ e)) (omega (arith, h))) (refl, plain_b c d brk nxt (suc (suc (pc + size_e Γ e + size_b Γ b))) (omega (arith, h))))
    plain_s (while1 e b) d brk nxt pc h = (refl, (refl, plain_both (gen_e Γ e d (pc + 2)) _ (plain_e e d (pc + 2) (omega (arith, h))) (refl, plain_both (gen_b Γ b d (pc + 1) (pc + 2) (suc (pc + 2 + size_e Γ e))) _ (plain_b b d (pc + 1) (pc + 2) (suc (pc + 2 + size_e Γ e)) (omega (arith, h))) (refl, tt))))
    plain_s (ret1 e) d brk nxt pc h = plain_both (gen_v Γ e d pc) _ (plain_v e d pc h) (refl, tt)
    plain_s break1 d brk nxt pc h = (refl, tt)
    plain_s next1 d brk nxt pc h = (refl, tt)

    plain_b : (b : Block) (d brk nxt pc : ℕ) → stage_b b ≡ 0 → AllPlain (gen_b Γ b d brk nxt pc)
    plain_b end d brk nxt pc h = tt
    plain_b (seq1 s b) d brk nxt pc h = plain_both (gen_s Γ s d brk nxt pc) _ (plain_s s d brk nxt pc (omega (arith, h))) (plain_b b d brk nxt (pc + size_s Γ s) (omega (arith, h)))

plain_fn : (p : Prog) (f : Name) (g : Fn) → stage_b g.body ≡ 0 → AllPlain (gen_fn p f g).code
plain_fn p f g h = plain_both (gen_b (scope p f (slots_of g)) g.body (words_of (slots_of g)) 0 0 0) _ (plain_b (scope p f (slots_of g)) g.body (words_of (slots_of g)) 0 0 0 h) (refl, (refl, tt))

each-with : {A : Type 0} (P Q R : A → Type 0) → ((x : A) → P x → Q x → R x) → (xs : List A) → Each P xs → Each Q xs → Each R xs
each-with P Q R k [] h i = tt
each-with P Q R k (x ∷ xs) h i = (k x h.0 i.0, each-with P Q R k xs h.1 i.1)

is_true : (b : Bool) → T b → b ≡ true
is_true true h = refl
is_true false h = absurd h

module _ (t : List ℕ) (p : Prog) (reads : Reads t p) (low : stage p ≡ 0) where
  accepted : ok p ≡ true
  accepted = is_true (ok p) reads.sound

  bare : Bare p
  bare = bare_low p (omega (arith, low))

  fits : ProgFits (gen_prog p)
  fits = fits_hold p accepted

  plain : Plain (gen_prog p)
  plain = plain_of p accepted bare

  few : Each Few (others (gen_prog p).funs)
  few = few_all t p reads accepted bare (compiled_short t p reads)

  few-passed : (h : ℕ) (H : MFn) → fun_of (gen_prog p) h ≡ some H → H.params ≤ 8
  few-passed zero H e = none-some H e
  few-passed (suc h) H e = (each_nth Few (others (gen_prog p).funs) h H few e).0

  call_core : (h n : ℕ) (os : List Opnd) → Takes (gen_prog p) h n (length os) → (leb n 8 && no_arrays os) ≡ true
  call_core h n os k = go (called (gen_prog p) fits plain h n os k)
    where
      go : (os ≡ []) × ((H : MFn) × (fun_of (gen_prog p) h ≡ some H) × (H.params ≡ n)) → (leb n 8 && no_arrays os) ≡ true
      go (e, (H, f, a)) = rw (e, le-leb n 8 (omega (arith, a, few-passed h H f))) refl

  core_of : (g : MFn) (s : Step) → plain_step s ≡ true → StepFits (gen_prog p) g s → core_step s ≡ true
  core_of g (s_num d n) h k = refl
  core_of g (s_copy d a) h k = refl
  core_of g (s_bin o d a b) h k = refl
  core_of g (s_un o d a) h k = refl
  core_of g (s_flag d a) h k = refl
  core_of g (s_getw d i) h k = refl
  core_of g (s_setw i a) h k = refl
  core_of g (s_jump i) h k = refl
  core_of g (s_jz a i) h k = refl
  core_of g (s_call d f i n os) h k = call_core f n os k.3
  core_of g (s_table d i j l n os) h k = h
  core_of g (s_out a) h k = refl
  core_of g (s_ret a) h k = refl
  core_of g (s_in d) h k = h
  core_of g (s_idx d o i) h k = h
  core_of g (s_put w o i a) h k = h
  core_of g (s_len d o) h k = h

  all_plain : Each (λ g. AllPlain g.code) (others (gen_prog p).funs)
  all_plain = each_sorted as_fn (λ u g. gen_fn p u.file g) (λ g. AllPlain g.code) CoreTop (λ u g q e. plain_fn p u.file g (q.function g e).body) (all_tops p 0 0) (of-program p low)

  all_core : Each (λ g. Each (λ s. core_step s ≡ true) g.code) (others (gen_prog p).funs)
  all_core = each-with (λ g. AllPlain g.code) (FnFits (gen_prog p)) _ (λ g h k. each-with (λ s. plain_step s ≡ true) (StepFits (gen_prog p) g) _ (core_of g) g.code h k.steps) (others (gen_prog p).funs) all_plain fits.funs.1

  -- what is left besides the steps
  all_narrow : Each (λ g. (g.params ≤ 8) × (g.places ≤ 1022)) (others (gen_prog p).funs)
  all_narrow = each-with Few (λ g. g.places ≤ (g.params + g.vars) + 731) _ (λ g h k. (h.0, omega (arith, h.0, h.1, k))) (others (gen_prog p).funs) few (room-holds t p reads).1

  all_funs : Each CoreFn (others (gen_prog p).funs)
  all_funs = each-with (λ g. Each (λ s. core_step s ≡ true) g.code) (λ g. (g.params ≤ 8) × (g.places ≤ 1022)) CoreFn (λ g h k. record { steps = h; params = k.0; places = k.1 }) (others (gen_prog p).funs) all_core all_narrow

  main_there : Takes (gen_prog p) (main_no p) 0 0 → main_no p < length (gen_prog p).funs
  main_there (H, e, a, b, l) = nth_low (gen_prog p).funs (main_no p) H e

  core : Core (gen_prog p) (main_no p)
  core = record {
    no_tables = none_sorted as_table (λ u fs. fn_nos p u.file fs) (all_tops p 0 0) (all_map (λ u q. q.no_table) (all_tops p 0 0) (of-program p low));
    no_arrays = program-no-arrays p low;
    fits = fits;
    funs = all_funs;
    short = compiled_short t p reads;
    words = omega (arith, few_words t p reads);
    main_first = omega arith;
    main_there = main_there fits.funs.0.steps.0.3;
  }

pub core_programs : CorePrograms
core_programs t p reads low = core t p reads low
