-- A tree's nodes, run over a pile, are the tree's check.
use Rattle.std.proofs.Common.{◌≡◌, ℕ, suc, ◌-◌, Bool, true, false, ◌&&◌, ltb, leb, List, [], ◌∷◌, ◌++◌, length, take, drop, sym, refl, ap, ◌∙◌, ap₂, append_assoc, append-nil, arith, length-append, le-leb}
use mathlib.Core.Option.{Option, some, none}
use Rattle.std.proofs.lemmas.List.{take_at, drop_at}
use Rattle.language.specs.Syntax.{pick, opt, Name, Expr, num, var, bin, un, and1, or1, idx, len, call, by_table, input, Exprs, no, and_then, Stmt, set1, store1, ex1, out1, if1, while1, ret1, break1, next1, Block, end, seq1, Kind, k_word, k_arr, Param, Fn, Prog}
use Rattle.language.specs.Words.{all}
use Rattle.language.specs.Meaning.{on_some}
use Rattle.language.specs.Checks.{same_k, kind_of, is_kind, any_arr, names_arr, fits_arg, params_of, params_of_table, ok_e, ok_es, ok_s, ok_b}
use Rattle.rows.specs.Nodes.{Node, nodes_e, nodes_es, nodes_s, nodes_bs, nodes_b, count, n_bin, n_and, n_or, n_join, n_un, n_idx, n_call, n_by, n_set, n_store, n_ex, n_out, n_if, n_else, n_fi, n_while, n_again, n_ret, n_end}
use Rattle.names.specs.Fold.{ctx, kinds, fit, eat, push, if_so, one, inside, step, run}

-- what an expression leaves on the pile
abbrev pub word_if : Bool → Option Kind
word_if b = pick b (some k_word) none

abbrev pub kind_e : Prog → Name → Fn → Expr → Option Kind
kind_e p f g (num n) = word_if (ok_e p f g (num n))
kind_e p f g (var x) = kind_of p f g x
kind_e p f g (bin o a b) = word_if (ok_e p f g (bin o a b))
kind_e p f g (un o a) = word_if (ok_e p f g (un o a))
kind_e p f g (and1 a b) = word_if (ok_e p f g (and1 a b))
kind_e p f g (or1 a b) = word_if (ok_e p f g (or1 a b))
kind_e p f g (idx x e) = word_if (ok_e p f g (idx x e))
kind_e p f g (len x) = word_if (ok_e p f g (len x))
kind_e p f g (call x es) = word_if (ok_e p f g (call x es))
kind_e p f g (by_table x e es) = word_if (ok_e p f g (by_table x e es))
kind_e p f g input = word_if true

-- what stands on top is eaten
pub eat-top : (n : ℕ) (qs st ks : List Kind) → length ks ≡ n → eat n qs (st ++ ks) ≡ pick (fit ks qs) (some st) none
unfolding eat
eat-top n qs st ks e =
    let l : length (st ++ ks) - n ≡ length st = omega (arith, length-append st ks) in
    let y : leb n (length (st ++ ks)) ≡ true = le-leb n (length (st ++ ks)) (omega (arith, length-append st ks)) in
    ap (λ (t : Bool). pick (t && fit (drop (length (st ++ ks) - n) (st ++ ks)) qs) (some (take (length (st ++ ks) - n) (st ++ ks))) none) y
    ∙ ap₂ (λ (a b : List Kind). pick (fit a qs) (some b) none)
    (ap (λ (m : ℕ). drop m (st ++ ks)) l ∙ drop_at st ks (length st) refl)
    (ap (λ (m : ℕ). take m (st ++ ks)) l ∙ take_at st ks (length st) refl)

and-true : (b : Bool) → (b && true) ≡ b
and-true true = refl
and-true false = refl

fit-one : (k : Kind) → fit (k ∷ []) one ≡ same_k k k_word
fit-one k = and-true (same_k k k_word)

pub eat-one : (st : List Kind) (k : Kind) → eat 1 one (st ++ (k ∷ [])) ≡ pick (same_k k k_word) (some st) none
eat-one st k = eat-top 1 one st (k ∷ []) refl ∙ ap (λ (b : Bool). pick b (some st) none) (fit-one k)

pub eat-two : (st : List Kind) (j k : Kind) → eat 2 (k_word ∷ one) ((st ++ (j ∷ [])) ++ (k ∷ [])) ≡ pick (same_k j k_word && same_k k k_word) (some st) none
eat-two st j k = ap (eat 2 (k_word ∷ one)) (append_assoc st (j ∷ []) (k ∷ [])) ∙ eat-top 2 (k_word ∷ one) st (j ∷ k ∷ []) refl ∙ ap (λ (b : Bool). pick (same_k j k_word && b) (some st) none) (fit-one k)

word1 : (b : Bool) → b ≡ is_kind (word_if b) k_word
word1 true = refl
word1 false = refl

not_arr : (b w : Bool) → false ≡ is_kind (word_if b) (k_arr w)
not_arr true w = refl
not_arr false w = refl

on_same : {A : Type 0} (o : Option A) (F G : A → Option (List Kind)) → ((k : A) → F k ≡ G k) → on_some o F ≡ on_some o G
on_same none F G e = refl
on_same (some k) F G e = e k

picked : (b : Bool) (st : List Kind) (F : Option (List Kind) → Option (List Kind)) → F none ≡ none → F (pick b (some st) none) ≡ pick b (F (some st)) none
picked true st F e = refl
picked false st F e = e

ate-one : (o : Option Kind) (st : List Kind) (F : Option (List Kind) → Option (List Kind)) → F none ≡ none → on_some o (λ k. F (eat 1 one (st ++ (k ∷ [])))) ≡ pick (is_kind o k_word) (F (some st)) none
ate-one none st F e = refl
ate-one (some k) st F e = ap F (eat-one st k) ∙ picked (same_k k k_word) st F e

and-false : (b : Bool) → (b && false) ≡ false
and-false true = refl
and-false false = refl

ate-two : (o q : Option Kind) (st : List Kind) (F : Option (List Kind) → Option (List Kind)) → F none ≡ none → on_some o (λ j. on_some q (λ k. F (eat 2 (k_word ∷ one) ((st ++ (j ∷ [])) ++ (k ∷ []))))) ≡ pick (is_kind o k_word && is_kind q k_word) (F (some st)) none
ate-two none q st F e = refl
ate-two (some j) none st F e = sym (ap (λ (b : Bool). pick b (F (some st)) none) (and-false (same_k j k_word)))
ate-two (some j) (some k) st F e = ap F (eat-two st j k) ∙ picked (same_k j k_word && same_k k k_word) st F e

pick_and : (a b : Bool) (x : Option (List Kind)) → pick a (pick b x none) none ≡ pick (a && b) x none
pick_and true b x = refl
pick_and false b x = refl

pick_swap : (a b : Bool) (x : Option (List Kind)) → pick a (pick b x none) none ≡ pick (b && a) x none
pick_swap true true x = refl
pick_swap true false x = refl
pick_swap false true x = refl
pick_swap false false x = refl

-- a word is pushed, or all is refused
out : (b : Bool) (st : List Kind) (R : List Kind → Option (List Kind)) → pick b (R (st ++ one)) none ≡ on_some (word_if b) (λ k. R (st ++ (k ∷ [])))
out true st R = refl
out false st R = refl

so-none : (b : Bool) (R : List Kind → Option (List Kind)) → on_some (if_so b none) R ≡ none
so-none true R = refl
so-none false R = refl

so-some : (b : Bool) (st : List Kind) (R : List Kind → Option (List Kind)) → on_some (if_so b (some st)) R ≡ pick b (R st) none
so-some true st R = refl
so-some false st R = refl

-- a name's kind is pushed
bound : (o : Option Kind) (st : List Kind) (R : List Kind → Option (List Kind)) → on_some (on_some o (λ k. some (st ++ (k ∷ [])))) R ≡ on_some o (λ k. R (st ++ (k ∷ [])))
bound none st R = refl
bound (some k) st R = refl

module _ (p : Prog) (f : Name) (g : Fn) where
  -- an expression is a word if that is its kind
  pub ok_kind : (e : Expr) → ok_e p f g e ≡ is_kind (kind_e p f g e) k_word
  ok_kind (num n) = word1 _
  ok_kind (var x) = refl
  ok_kind (bin o a b) = word1 (ok_e p f g a && ok_e p f g b)
  ok_kind (un o a) = word1 (ok_e p f g a)
  ok_kind (and1 a b) = word1 (ok_e p f g a && ok_e p f g b)
  ok_kind (or1 a b) = word1 (ok_e p f g a && ok_e p f g b)
  ok_kind (idx x e) = word1 (ok_e p f g (idx x e))
  ok_kind (len x) = word1 (ok_e p f g (len x))
  ok_kind (call x es) = word1 (ok_e p f g (call x es))
  ok_kind (by_table x e es) = word1 (ok_e p f g (by_table x e es))
  ok_kind input = refl

  arr_kind : (w : Bool) (e : Expr) → names_arr p f g w e ≡ is_kind (kind_e p f g e) (k_arr w)
  arr_kind w (num n) = not_arr (ok_e p f g (num n)) w
  arr_kind w (var x) = refl
  arr_kind w (bin o a b) = not_arr (ok_e p f g (bin o a b)) w
  arr_kind w (un o a) = not_arr (ok_e p f g (un o a)) w
  arr_kind w (and1 a b) = not_arr (ok_e p f g (and1 a b)) w
  arr_kind w (or1 a b) = not_arr (ok_e p f g (or1 a b)) w
  arr_kind w (idx x e) = not_arr (ok_e p f g (idx x e)) w
  arr_kind w (len x) = not_arr (ok_e p f g (len x)) w
  arr_kind w (call x es) = not_arr (ok_e p f g (call x es)) w
  arr_kind w (by_table x e es) = not_arr (ok_e p f g (by_table x e es)) w
  arr_kind w input = refl

  arg_kind : (k : Kind) (e : Expr) → fits_arg p f g e (ok_e p f g e) (some k) ≡ is_kind (kind_e p f g e) k
  arg_kind k_word e = ok_kind e
  arg_kind (k_arr w) e = arr_kind w e

  abbrev pub kind_es : Exprs → Option (List Kind)
  kind_es no = some []
  kind_es (and_then e es) = on_some (kind_e p f g e) (λ k. on_some (kind_es es) (λ ks. some (k ∷ ks)))

  pub args_fit : (es : Exprs) (qs : List Param) → ok_es p f g qs es ≡ opt (kind_es es) false (λ ks. fit ks (kinds qs))
  args_fit no [] = refl
  args_fit no (q ∷ qs) = refl
  args_fit (and_then e es) [] = cut (kind_e p f g e) (kind_es es)
    where
      cut : (o : Option Kind) (os : Option (List Kind)) → false ≡ opt (on_some o (λ k. on_some os (λ ks. some (k ∷ ks)))) false (λ ks. fit ks [])
      cut none os = refl
      cut (some k) none = refl
      cut (some k) (some ks) = refl
  args_fit (and_then e es) (q ∷ qs) = ap₂ (λ (a b : Bool). a && b) (arg_kind q.kind e) (args_fit es qs) ∙ cut (kind_e p f g e) (kind_es es)
    where
      cut : (o : Option Kind) (os : Option (List Kind)) → (is_kind o q.kind && opt os false (λ ks. fit ks (kinds qs))) ≡ opt (on_some o (λ k. on_some os (λ ks. some (k ∷ ks)))) false (λ ks. fit ks (kinds (q ∷ qs)))
      cut none os = refl
      cut (some k) none = and-false (same_k k q.kind)
      cut (some k) (some ks) = refl

  pub kinds_count : (es : Exprs) (ks : List Kind) → kind_es es ≡ some ks → length ks ≡ count es
  kinds_count no ks e = let z : ks ≡ [] = cc in ap length z
  kinds_count (and_then a es) ks e = cut (kind_e p f g a) (kind_es es) (kinds_count es) e
    where
      cut : (o : Option Kind) (os : Option (List Kind)) → ((ls : List Kind) → os ≡ some ls → length ls ≡ count es) → on_some o (λ k. on_some os (λ ls. some (k ∷ ls))) ≡ some ks → length ks ≡ suc (count es)
      cut none os ih q = let z : ◌≡◌ {A = ℕ} 0 1 = cc in absurd (omega arith)
      cut (some k) none ih q = let z : ◌≡◌ {A = ℕ} 0 1 = cc in absurd (omega arith)
      cut (some k) (some ls) ih q = let z : ks ≡ k ∷ ls = cc in ap length z ∙ ap suc (ih ls refl)

  -- the arguments of a call, behind what else is asked
  ate_args : (n : ℕ) (b : Bool) (qs : List Kind) (o : Option (List Kind)) (st : List Kind) (R : List Kind → Option (List Kind)) → ((ks : List Kind) → o ≡ some ks → length ks ≡ n) → b ≡ opt o false (λ ks. fit ks qs) → on_some o (λ ks. on_some (push k_word (eat n qs (st ++ ks))) R) ≡ pick b (R (st ++ one)) none
  ate_args n b qs none st R l e = sym (ap (λ (c : Bool). pick c (R (st ++ one)) none) e)
  ate_args n b qs (some ks) st R l e = ap (λ (o : Option (List Kind)). on_some (push k_word o) R) (eat-top n qs st ks (l ks refl)) ∙ picked (fit ks qs) st (λ o. on_some (push k_word o) R) refl ∙ sym (ap (λ (c : Bool). pick c (R (st ++ one)) none) e)

  on_none : (o : Option (List Kind)) (F : List Kind → Option (List Kind)) → ((ks : List Kind) → F ks ≡ none) → on_some o F ≡ none
  on_none none F e = refl
  on_none (some ks) F e = e ks

  call_args : (d : ℕ) (x : Name) (es : Exprs) (st : List Kind) (R : List Kind → Option (List Kind)) → on_some (kind_es es) (λ ks. on_some (step (ctx p f g) d (n_call (count es) x) (st ++ ks)) R) ≡ pick (ok_e p f g (call x es)) (R (st ++ one)) none
  call_args d x es st R = cut (params_of p f g x)
    where
      cut : (o : Option (List Param)) → on_some (kind_es es) (λ ks. on_some (on_some o (λ qs. push k_word (eat (count es) (kinds qs) (st ++ ks)))) R) ≡ pick (opt o false (λ qs. ok_es p f g qs es)) (R (st ++ one)) none
      cut none = on_none (kind_es es) _ (λ ks. refl)
      cut (some qs) = ate_args (count es) (ok_es p f g qs es) (kinds qs) (kind_es es) st R (kinds_count es) (args_fit es qs)

  by_args : (d : ℕ) (x : Name) (e : Expr) (es : Exprs) (st : List Kind) (R : List Kind → Option (List Kind)) → on_some (kind_e p f g e) (λ k. on_some (kind_es es) (λ ks. on_some (step (ctx p f g) d (n_by (count es) x) ((st ++ (k ∷ [])) ++ ks)) R)) ≡ pick (ok_e p f g (by_table x e es)) (R (st ++ one)) none
  by_args d x e es st R = cut (kind_e p f g e) (params_of_table p f g x) ∙ ap (λ (c : Bool). pick (c && opt (params_of_table p f g x) false (λ qs. ok_es p f g qs es)) (R (st ++ one)) none) (sym (ok_kind e))
    where
      last : (k : Kind) (qs : List Param) (os : Option (List Kind)) → ((ks : List Kind) → os ≡ some ks → length ks ≡ count es) → ok_es p f g qs es ≡ opt os false (λ ks. fit ks (kinds qs)) → on_some os (λ ks. on_some (push k_word (eat (suc (count es)) (k_word ∷ kinds qs) ((st ++ (k ∷ [])) ++ ks))) R) ≡ pick (same_k k k_word && ok_es p f g qs es) (R (st ++ one)) none
      last k qs none l q = sym (ap (λ (c : Bool). pick (same_k k k_word && c) (R (st ++ one)) none) q ∙ ap (λ (c : Bool). pick c (R (st ++ one)) none) (and-false (same_k k k_word)))
      last k qs (some ks) l q =
          ap (λ (z : List Kind). on_some (push k_word (eat (suc (count es)) (k_word ∷ kinds qs) z)) R) (append_assoc st (k ∷ []) ks)
          ∙ ap (λ (o : Option (List Kind)). on_some (push k_word o) R) (eat-top (suc (count es)) (k_word ∷ kinds qs) st (k ∷ ks) (ap suc (l ks refl)))
          ∙ picked (same_k k k_word && fit ks (kinds qs)) st (λ o. on_some (push k_word o) R) refl
          ∙ sym (ap (λ (c : Bool). pick (same_k k k_word && c) (R (st ++ one)) none) q)

      cut : (o : Option Kind) (t : Option (List Param)) → on_some o (λ k. on_some (kind_es es) (λ ks. on_some (on_some t (λ qs. push k_word (eat (suc (count es)) (k_word ∷ kinds qs) ((st ++ (k ∷ [])) ++ ks)))) R)) ≡ pick (is_kind o k_word && opt t false (λ qs. ok_es p f g qs es)) (R (st ++ one)) none
      cut none t = refl
      cut (some k) none = on_none (kind_es es) _ (λ ks. refl) ∙ sym (ap (λ (c : Bool). pick c (R (st ++ one)) none) (and-false (same_k k k_word)))
      cut (some k) (some qs) = last k qs (kind_es es) (kinds_count es) (args_fit es qs)

  mutual
    -- the fold: a tree's nodes before others push its kind, or refuse
    pub fold_e : (w : Bool) (e : Expr) (d : ℕ) (ts : List Node) (st : List Kind) → run (ctx p f g) d (nodes_e w e ts) st ≡ on_some (kind_e p f g e) (λ k. run (ctx p f g) d ts (st ++ (k ∷ [])))
    fold_e w (num n) d ts st = so-some (ltb n all) (st ++ one) (run (ctx p f g) d ts) ∙ out (ltb n all) st (run (ctx p f g) d ts)
    fold_e true (var x) d ts st = bound (kind_of p f g x) st (run (ctx p f g) d ts)
    fold_e false (var x) d ts st = bound (kind_of p f g x) st (run (ctx p f g) d ts)
    fold_e w (bin o a b) d ts st =
        fold_e false a d (nodes_e false b (n_bin o ∷ ts)) st
        ∙ on_same (kind_e p f g a) _ _ (λ j. fold_e false b d (n_bin o ∷ ts) (st ++ (j ∷ [])))
        ∙ ate-two (kind_e p f g a) (kind_e p f g b) st (λ q. on_some (push k_word q) (run (ctx p f g) d ts)) refl
        ∙ ap₂ (λ (c h : Bool). pick (c && h) (run (ctx p f g) d ts (st ++ one)) none) (sym (ok_kind a)) (sym (ok_kind b))
        ∙ out (ok_e p f g a && ok_e p f g b) st (run (ctx p f g) d ts)
    fold_e w (un o a) d ts st =
        fold_e false a d (n_un o ∷ ts) st
        ∙ ate-one (kind_e p f g a) st (λ q. on_some (push k_word q) (run (ctx p f g) d ts)) refl
        ∙ ap (λ (c : Bool). pick c (run (ctx p f g) d ts (st ++ one)) none) (sym (ok_kind a))
        ∙ out (ok_e p f g a) st (run (ctx p f g) d ts)
    fold_e w (and1 a b) d ts st =
        fold_e false a d (n_and ∷ nodes_e false b (n_join ∷ ts)) st
        ∙ ate-one (kind_e p f g a) st (λ q. on_some q (run (ctx p f g) d (nodes_e false b (n_join ∷ ts)))) refl
        ∙ ap₂ (λ (c : Bool) (q : Option (List Kind)). pick c q none) (sym (ok_kind a)) (fold_e false b d (n_join ∷ ts) st ∙ ate-one (kind_e p f g b) st (λ q. on_some (push k_word q) (run (ctx p f g) d ts)) refl ∙ ap (λ (c : Bool). pick c (run (ctx p f g) d ts (st ++ one)) none) (sym (ok_kind b)))
        ∙ pick_and (ok_e p f g a) (ok_e p f g b) (run (ctx p f g) d ts (st ++ one))
        ∙ out (ok_e p f g a && ok_e p f g b) st (run (ctx p f g) d ts)
    fold_e w (or1 a b) d ts st =
        fold_e false a d (n_or ∷ nodes_e false b (n_join ∷ ts)) st
        ∙ ate-one (kind_e p f g a) st (λ q. on_some q (run (ctx p f g) d (nodes_e false b (n_join ∷ ts)))) refl
        ∙ ap₂ (λ (c : Bool) (q : Option (List Kind)). pick c q none) (sym (ok_kind a)) (fold_e false b d (n_join ∷ ts) st ∙ ate-one (kind_e p f g b) st (λ q. on_some (push k_word q) (run (ctx p f g) d ts)) refl ∙ ap (λ (c : Bool). pick c (run (ctx p f g) d ts (st ++ one)) none) (sym (ok_kind b)))
        ∙ pick_and (ok_e p f g a) (ok_e p f g b) (run (ctx p f g) d ts (st ++ one))
        ∙ out (ok_e p f g a && ok_e p f g b) st (run (ctx p f g) d ts)
    fold_e w (idx x e) d ts st =
        fold_e false e d (n_idx x ∷ ts) st
        ∙ ate-one (kind_e p f g e) st (λ q. on_some (if_so (any_arr (kind_of p f g x)) (push k_word q)) (run (ctx p f g) d ts)) (so-none (any_arr (kind_of p f g x)) (run (ctx p f g) d ts))
        ∙ ap₂ (λ (c : Bool) (q : Option (List Kind)). pick c q none) (sym (ok_kind e)) (so-some (any_arr (kind_of p f g x)) (st ++ one) (run (ctx p f g) d ts))
        ∙ pick_swap (ok_e p f g e) (any_arr (kind_of p f g x)) (run (ctx p f g) d ts (st ++ one))
        ∙ out (any_arr (kind_of p f g x) && ok_e p f g e) st (run (ctx p f g) d ts)
    fold_e w (len x) d ts st = so-some (any_arr (kind_of p f g x)) (st ++ one) (run (ctx p f g) d ts) ∙ out (any_arr (kind_of p f g x)) st (run (ctx p f g) d ts)
    fold_e w (call x es) d ts st =
        fold_es es d (n_call (count es) x ∷ ts) st
        ∙ call_args d x es st (run (ctx p f g) d ts)
        ∙ out (ok_e p f g (call x es)) st (run (ctx p f g) d ts)
    fold_e w (by_table x e es) d ts st =
        fold_e false e d (nodes_es es (n_by (count es) x ∷ ts)) st
        ∙ on_same (kind_e p f g e) _ _ (λ k. fold_es es d (n_by (count es) x ∷ ts) (st ++ (k ∷ [])))
        ∙ by_args d x e es st (run (ctx p f g) d ts)
        ∙ out (ok_e p f g (by_table x e es)) st (run (ctx p f g) d ts)
    fold_e w input d ts st = refl

    pub fold_es : (es : Exprs) (d : ℕ) (ts : List Node) (st : List Kind) → run (ctx p f g) d (nodes_es es ts) st ≡ on_some (kind_es es) (λ ks. run (ctx p f g) d ts (st ++ ks))
    fold_es no d ts st = ap (run (ctx p f g) d ts) (sym (append-nil st))
    fold_es (and_then e es) d ts st =
        fold_e true e d (nodes_es es ts) st
        ∙ on_same (kind_e p f g e) _ _ (λ k. fold_es es d ts (st ++ (k ∷ [])))
        ∙ cut (kind_e p f g e) (kind_es es)
      where
        cut : (o : Option Kind) (os : Option (List Kind)) → on_some o (λ k. on_some os (λ ks. run (ctx p f g) d ts ((st ++ (k ∷ [])) ++ ks))) ≡ on_some (on_some o (λ k. on_some os (λ ks. some (k ∷ ks)))) (λ ks. run (ctx p f g) d ts (st ++ ks))
        cut none os = refl
        cut (some k) none = refl
        cut (some k) (some ks) = ap (run (ctx p f g) d ts) (append_assoc st (k ∷ []) ks)

  -- an expression that a statement eats
  eats : (e : Expr) (d : ℕ) (t : Node) (ts : List Node) (st : List Kind) (F : Option (List Kind) → Option (List Kind)) → F none ≡ none → ((k : Kind) → run (ctx p f g) d (t ∷ ts) (st ++ (k ∷ [])) ≡ F (eat 1 one (st ++ (k ∷ [])))) → run (ctx p f g) d (nodes_e false e (t ∷ ts)) st ≡ pick (ok_e p f g e) (F (some st)) none
  eats e d t ts st F n q = fold_e false e d (t ∷ ts) st ∙ on_same (kind_e p f g e) _ _ q ∙ ate-one (kind_e p f g e) st F n ∙ ap (λ (c : Bool). pick c (F (some st)) none) (sym (ok_kind e))

  mutual
    pub fold_s : (s : Stmt) (d : ℕ) (ts : List Node) (st : List Kind) → run (ctx p f g) d (nodes_s s ts) st ≡ pick (ok_s p f g (inside d) s) (run (ctx p f g) d ts st) none
    fold_s (set1 x e) d ts st =
        let b = is_kind (kind_of p f g x) k_word in
        eats e d (n_set x) ts st (λ q. on_some (if_so b q) (run (ctx p f g) d ts)) (so-none b (run (ctx p f g) d ts)) (λ k. refl)
        ∙ ap (λ (q : Option (List Kind)). pick (ok_e p f g e) q none) (so-some b st (run (ctx p f g) d ts))
        ∙ pick_swap (ok_e p f g e) b (run (ctx p f g) d ts st)
    fold_s (store1 x i e) d ts st =
        let b = any_arr (kind_of p f g x) in
        fold_e false i d (nodes_e false e (n_store x ∷ ts)) st
        ∙ on_same (kind_e p f g i) _ _ (λ j. fold_e false e d (n_store x ∷ ts) (st ++ (j ∷ [])))
        ∙ ate-two (kind_e p f g i) (kind_e p f g e) st (λ q. on_some (if_so b q) (run (ctx p f g) d ts)) (so-none b (run (ctx p f g) d ts))
        ∙ ap₂ (λ (c h : Bool). pick (c && h) (on_some (if_so b (some st)) (run (ctx p f g) d ts)) none) (sym (ok_kind i)) (sym (ok_kind e))
        ∙ ap (λ (q : Option (List Kind)). pick (ok_e p f g i && ok_e p f g e) q none) (so-some b st (run (ctx p f g) d ts))
        ∙ pick_swap (ok_e p f g i && ok_e p f g e) b (run (ctx p f g) d ts st)
    fold_s (ex1 e) d ts st = eats e d n_ex ts st (λ q. on_some q (run (ctx p f g) d ts)) refl (λ k. refl)
    fold_s (out1 e) d ts st = eats e d n_out ts st (λ q. on_some q (run (ctx p f g) d ts)) refl (λ k. refl)
    fold_s (if1 e b c) d ts st =
        eats e d n_if (nodes_bs b (n_else ∷ nodes_bs c (n_fi ∷ ts))) st (λ q. on_some q (run (ctx p f g) d (nodes_bs b (n_else ∷ nodes_bs c (n_fi ∷ ts))))) refl (λ k. refl)
        ∙ ap (λ (q : Option (List Kind)). pick (ok_e p f g e) q none) (fold_b b d (n_else ∷ nodes_bs c (n_fi ∷ ts)) st ∙ ap (λ (q : Option (List Kind)). pick (ok_b p f g (inside d) b) q none) (fold_b c d (n_fi ∷ ts) st) ∙ pick_and (ok_b p f g (inside d) b) (ok_b p f g (inside d) c) (run (ctx p f g) d ts st))
        ∙ pick_and (ok_e p f g e) (ok_b p f g (inside d) b && ok_b p f g (inside d) c) (run (ctx p f g) d ts st)
    fold_s (while1 e b) d ts st =
        eats e (suc d) n_while (nodes_bs b (n_again ∷ ts)) st (λ q. on_some q (run (ctx p f g) (suc d) (nodes_bs b (n_again ∷ ts)))) refl (λ k. refl)
        ∙ ap (λ (q : Option (List Kind)). pick (ok_e p f g e) q none) (fold_b b (suc d) (n_again ∷ ts) st)
        ∙ pick_and (ok_e p f g e) (ok_b p f g true b) (run (ctx p f g) d ts st)
    fold_s (ret1 e) d ts st = eats e d n_ret ts st (λ q. on_some q (run (ctx p f g) d ts)) refl (λ k. refl)
    fold_s break1 d ts st = so-some (inside d) st (run (ctx p f g) d ts)
    fold_s next1 d ts st = so-some (inside d) st (run (ctx p f g) d ts)

    pub fold_b : (b : Block) (d : ℕ) (ts : List Node) (st : List Kind) → run (ctx p f g) d (nodes_bs b ts) st ≡ pick (ok_b p f g (inside d) b) (run (ctx p f g) d ts st) none
    fold_b end d ts st = refl
    fold_b (seq1 s b) d ts st =
        fold_s s d (nodes_bs b ts) st
        ∙ ap (λ (q : Option (List Kind)). pick (ok_s p f g (inside d) s) q none) (fold_b b d ts st)
        ∙ pick_and (ok_s p f g (inside d) s) (ok_b p f g (inside d) b) (run (ctx p f g) d ts st)

  -- a body's check is the run of its nodes
  pub fold_body : (b : Block) → run (ctx p f g) 0 (nodes_b b) [] ≡ pick (ok_b p f g false b) (some []) none
  fold_body b = fold_b b 0 (n_end ∷ []) []
