-- What the reader takes for an expression is one by the relation; and `Post`, what holds of a result if there is one, with its laws.
-- Rests on PieceKinds.
use mathlib.Core.Path.{◌≡◌, refl, sym, ◌∙◌, ap}
use mathlib.Core.Bool.{Bool, true, false, not}
use mathlib.Core.List.{List, [], ◌∷◌, ◌++◌, append_assoc}
use mathlib.Core.Option.{Option, some, none, none-ne-some, some-injective}
use Prim.Native.Nat.{ℕ, zero, suc, ◌≤◌, ◌<◌, zero-le}
use native.Mathlib.Omega.{arith}
use native.Mathlib.Nat.{le_refl}
use native.Mathlib.Decide.{le_ind}
use lib.ListN.{length}
use lib.Dec.{leb, T, leb→le, nleb→lt, lit<, lit≤}
use Rattle.language.specs.Syntax.{pick, Name, same, Expr, Exprs, and_then}
use Rattle.grammar.specs.Text.{k_in, k_len, k_call, t_lp, t_rp, t_lb, t_rb, t_comma, is_name, Before, minus_before, IsExpr, looser, one_e, num_e, var_e, brackets_e, index_e, len_e, call_e, table_e, in_e, AreArgs, none_es, one_es, more_es}
use Rattle.grammar.specs.Parse.{join, Tie, Piece, p_num, p_name, p_op, p_minus, p_before, p_lp, p_rp, p_lb, p_comma, p_len, p_call, p_in, p_other, look, op_of, After, a_call, a_index, a_none, after, Go, g_more, g_end, g_none, go_on, Res, fail, got, bind, eat, eat_name, Fns, climb, behind, args_by, args_of, next_by, next_arg, named, name, signed, start, one_step, chain_by, chain_step, step, stop, up_to, reader}
use Rattle.grammar.proofs.PieceKinds.{same-eq, Ties, ties_ex, ties_low, Means, look-means, tie-of}

-- what holds of a result, if there is one
pub data Post {A : Type 0} (Q : A → List Name → Type 0) : Res A → Type 0 where
  none_p : Post Q fail
  got_p : {a : A} {r : List Name} → Q a r → Post Q (got a r)

pub post-got : {A : Type 0} {Q : A → List Name → Type 0} {a : A} {r : List Name} → Post Q (got a r) → Q a r
post-got (got_p q) = q

pub post-bind : {A C : Type 0} {P : A → List Name → Type 0} {Q : C → List Name → Type 0} {m : Res A} (k : A → List Name → Res C) → Post P m → ((a : A) (r : List Name) → P a r → Post Q (k a r)) → Post Q (bind m k)
post-bind k none_p f = none_p
post-bind k (got_p {a} {r} p) f = f a r p

pub post-pick : {A : Type 0} {Q : A → List Name → Type 0} (b : Bool) {x y : Res A} → (T b → Post Q x) → (T (not b) → Post Q y) → Post Q (pick b x y)
post-pick true f g = f tt
post-pick false f g = g tt

pub post-eat : {C : Type 0} {Q : C → List Name → Type 0} (w : Name) (s : List Name) (k : List Name → Res C) → ((r : List Name) → s ≡ w ∷ r → Post Q (k r)) → Post Q (eat w s k)
post-eat w [] k f = none_p
post-eat w (x ∷ r) k f = post-pick (same x w) (λ t. f r (ap (λ y. y ∷ r) (same-eq x w t))) (λ t. none_p)

pub post-eat_name : {C : Type 0} {Q : C → List Name → Type 0} (s : List Name) (k : Name → List Name → Res C) → ((x : Name) (r : List Name) → s ≡ x ∷ r → T (is_name x) → Post Q (k x r)) → Post Q (eat_name s k)
post-eat_name [] k f = none_p
post-eat_name (x ∷ r) k f = post-pick (is_name x) (λ t. f x r refl t) (λ t. none_p)

-- the next piece is no operator that holds as tightly as n
abbrev pub Ends : ℕ → List Name → Type 0
Ends n [] = Unit {0}
Ends n (w ∷ s) = (t : Tie) → op_of (look w) ≡ some t → t.lvl < n

pub ends_8 : (n : ℕ) (s : List Name) → 8 ≤ n → Ends n s
ends_8 n [] h = tt
ends_8 n (w ∷ s) h = λ t e. let k = ties_low (tie-of w t e) in omega arith

pub record Took (n : ℕ) (s : List Name) (e : Expr) (r : List Name) : Type 0 where
  pub used : List Name
  pub all : s ≡ used ++ r
  pub is : IsExpr n used e

pub record Tooks (s : List Name) (es : Exprs) (r : List Name) : Type 0 where
  pub used : List Name
  pub all : s ≡ used ++ (t_rp ∷ r)
  pub is : AreArgs used es

pub record Sound (R : Fns) : Type 0 where
  pub one_s : (s : List Name) → Post (Took 8 s) (R.one s)
  pub chain_s : (n m : ℕ) (a : Expr) (s₀ s : List Name) → IsExpr m s₀ a → n ≤ m → m ≤ 8 → Ends (suc m) s → Post (λ e r. Took n (s₀ ++ s) e r × Ends n r) (R.chain n a s)
  pub args_s : (e : Expr) (s₀ s : List Name) → IsExpr 0 s₀ e → Post (λ es r. Tooks (s₀ ++ s) (and_then e es) r) (R.args s)

-- looser, by as much as is wanted
pub down : (m n : ℕ) {s : List Name} {e : Expr} → n ≤ m → m ≤ 9 → IsExpr m s e → IsExpr n s e
down m n {s} {e} h = le_ind (λ i. i ≤ 9 → IsExpr i s e → IsExpr n s e) (λ k x. x) (λ i g ih k x. ih (omega arith) (looser k x)) m h

-- a closing piece behind what was taken
pub closed : (s₁ : List Name) (w : Name) {s q r : List Name} → s ≡ s₁ ++ q → q ≡ w ∷ r → s ≡ (s₁ ++ (w ∷ [])) ++ r
closed s₁ w {r = r} p q = rw (p, q, append_assoc s₁ (w ∷ []) r)

abbrev AfterMeans : After → Name → Type 0
AfterMeans a_call w = w ≡ t_lp
AfterMeans a_index w = w ≡ t_lb
AfterMeans a_none w = Unit {0}

after-means : (p : Piece) (w : Name) → Means p w → AfterMeans (after p) w
after-means (p_num n) w m = tt
after-means p_name w m = tt
after-means (p_op t) w m = tt
after-means p_minus w m = tt
after-means (p_before o) w m = tt
after-means p_lp w m = m
after-means p_rp w m = tt
after-means p_lb w m = m
after-means p_comma w m = tt
after-means p_len w m = tt
after-means p_call w m = tt
after-means p_in w m = tt
after-means p_other w m = tt

abbrev pub GoMeans : Go → Name → Type 0
GoMeans g_more w = w ≡ t_comma
GoMeans g_end w = w ≡ t_rp
GoMeans g_none w = Unit {0}

pub go-means : (p : Piece) (w : Name) → Means p w → GoMeans (go_on p) w
go-means (p_num n) w m = tt
go-means p_name w m = tt
go-means (p_op t) w m = tt
go-means p_minus w m = tt
go-means (p_before o) w m = tt
go-means p_lp w m = tt
go-means p_rp w m = m
go-means p_lb w m = tt
go-means p_comma w m = m
go-means p_len w m = tt
go-means p_call w m = tt
go-means p_in w m = tt
go-means p_other w m = tt

module _ (R : Fns) (S : Sound R) where
  pub climb_sound : (n : ℕ) (s : List Name) → n ≤ 8 → Post (λ e r. Took n s e r × Ends n r) (climb R n s)
  climb_sound n s h = post-bind _ (S.one_s s) (λ e r k. rw k.all (S.chain_s n 8 e k.used r k.is h (le_refl _) (ends_8 9 r (lit≤ tt))))

  behind_sound : (e : Expr) (s₀ r : List Name) → IsExpr 0 s₀ e → Post (Tooks (s₀ ++ r)) (behind R e r)
  behind_sound e s₀ r x = post-bind _ (S.args_s e s₀ r x) (λ es r' k. got_p k)

  first_sound : (s : List Name) → Post (Tooks s) (bind (climb R 0 s) (behind R))
  first_sound s = post-bind _ (climb_sound 0 s zero-le) (λ e r k. rw k.0.all (behind_sound e k.0.used r k.0.is))

  args_by_sound : (g : Go) (w : Name) (s : List Name) → GoMeans g w → Post (Tooks (w ∷ s)) (args_by R g (w ∷ s) s)
  args_by_sound g_more w s m = first_sound (w ∷ s)
  args_by_sound g_end w s m = got_p (record { used = []; all = ap (λ v. v ∷ s) m; is = none_es })
  args_by_sound g_none w s m = first_sound (w ∷ s)

  pub args_of_sound : (s : List Name) → Post (Tooks s) (args_of R s)
  args_of_sound [] = none_p
  args_of_sound (w ∷ s) = args_by_sound (go_on (look w)) w s (go-means (look w) w (look-means w))

  next_by_sound : (g : Go) (e : Expr) (s₀ : List Name) (w : Name) (s : List Name) → IsExpr 0 s₀ e → GoMeans g w → Post (λ es r. Tooks (s₀ ++ (w ∷ s)) (and_then e es) r) (next_by R g s)
  next_by_sound g_more e s₀ w s x m =
      post-bind _ (climb_sound 0 s zero-le) (λ f r k. post-bind _ (S.args_s f k.0.used r k.0.is) (λ es r' g.
      got_p (record {
        used = s₀ ++ (t_comma ∷ g.used);
        all = rw (m, k.0.all, g.all, append_assoc s₀ (t_comma ∷ g.used) (t_rp ∷ r'));
        is = more_es x g.is;
      })))
  next_by_sound g_end e s₀ w s x m = got_p (record { used = s₀; all = rw m; is = one_es x })
  next_by_sound g_none e s₀ w s x m = none_p

  next_arg_sound : (e : Expr) (s₀ s : List Name) → IsExpr 0 s₀ e → Post (λ es r. Tooks (s₀ ++ s) (and_then e es) r) (next_arg R s)
  next_arg_sound e s₀ [] x = none_p
  next_arg_sound e s₀ (w ∷ s) x = next_by_sound (go_on (look w)) e s₀ w s x (go-means (look w) w (look-means w))

  -- behind a name
  named_sound : (a : After) (x w : Name) (s : List Name) → T (is_name x) → AfterMeans a w → Post (Took 9 (x ∷ w ∷ s)) (named R x a (w ∷ s) s)
  named_sound a_call x w s h m = post-bind _ (args_of_sound s) (λ es r k. got_p (record { used = x ∷ t_lp ∷ (k.used ++ (t_rp ∷ [])); all = rw m (ap (λ v. x ∷ t_lp ∷ v) (closed k.used t_rp k.all refl)); is = call_e h k.is }))
  named_sound a_index x w s h m =
      post-bind _ (climb_sound 0 s zero-le) (λ e r k. post-eat t_rb r _ (λ r' q.
      got_p (record { used = x ∷ t_lb ∷ (k.0.used ++ (t_rb ∷ [])); all = rw m (ap (λ v. x ∷ t_lb ∷ v) (closed k.0.used t_rb k.0.all q)); is = index_e h k.0.is })))
  named_sound a_none x w s h m = got_p (record { used = x ∷ []; all = refl; is = var_e h })

  name_sound : (x : Name) (s : List Name) → T (is_name x) → Post (Took 9 (x ∷ s)) (name R x s)
  name_sound x [] h = got_p (record { used = x ∷ []; all = refl; is = var_e h })
  name_sound x (w ∷ s) h = named_sound (after (look w)) x w s h (after-means (look w) w (look-means w))

  signed_sound : (o : ℕ) (w : Name) (s : List Name) → Before w o → Post (Took 8 (w ∷ s)) (signed R o s)
  signed_sound o w s b = post-bind _ (S.one_s s) (λ e r k. got_p (record { used = w ∷ k.used; all = ap (λ v. w ∷ v) k.all; is = one_e b k.is }))

  nine : {s : List Name} {m : Res Expr} → Post (Took 9 s) m → Post (Took 8 s) m
  nine none_p = none_p
  nine (got_p k) = got_p (record { used = k.used; all = k.all; is = looser (lit< tt) k.is })

  start_sound : (p : Piece) (w : Name) (s : List Name) → Means p w → Post (Took 8 (w ∷ s)) (start R w p s)
  start_sound (p_num n) w s m = got_p (record { used = w ∷ []; all = refl; is = looser (lit< tt) (num_e m) })
  start_sound p_name w s m = nine (name_sound w s m)
  start_sound (p_op t) w s m = none_p
  start_sound p_minus w s m = signed_sound 0 w s (rw m minus_before)
  start_sound (p_before o) w s m = signed_sound o w s m
  start_sound p_lp w s m =
      nine (post-bind _ (climb_sound 0 s zero-le) (λ e r k. post-eat t_rp r _ (λ r' q.
      got_p (record { used = t_lp ∷ (k.0.used ++ (t_rp ∷ [])); all = rw m (ap (λ v. t_lp ∷ v) (closed k.0.used t_rp k.0.all q)); is = brackets_e k.0.is }))))
  start_sound p_rp w s m = none_p
  start_sound p_lb w s m = none_p
  start_sound p_comma w s m = none_p
  start_sound p_len w s m =
      nine (post-eat t_lp s _ (λ s₁ q₁. post-eat_name s₁ _ (λ x s₂ q₂ h. post-eat t_rp s₂ _ (λ s₃ q₃.
      got_p (record { used = k_len ∷ t_lp ∷ x ∷ t_rp ∷ []; all = rw (m, q₁, q₂, q₃); is = len_e h })))))
  start_sound p_call w s m =
      nine (post-eat_name s _ (λ x s₁ q₁ h. post-eat t_lb s₁ _ (λ s₂ q₂. post-bind _ (climb_sound 0 s₂ zero-le) (λ e r k. post-eat t_rb r _ (λ r₁ q₃. post-eat t_lp r₁ _ (λ r₂ q₄. post-bind _ (args_of_sound r₂) (λ es r₃ g.
      got_p (record {
        used = k_call ∷ x ∷ t_lb ∷ (k.0.used ++ (t_rb ∷ t_lp ∷ (g.used ++ (t_rp ∷ []))));
        all = rw (m, q₁, q₂, k.0.all, q₃, q₄, g.all) (simp append_assoc);
        is = table_e h k.0.is g.is;
      }))))))))
  start_sound p_in w s m =
      nine (post-eat t_lp s _ (λ s₁ q₁. post-eat t_rp s₁ _ (λ s₂ q₂. got_p (record { used = k_in ∷ t_lp ∷ t_rp ∷ []; all = rw (m, q₁, q₂); is = in_e }))))
  start_sound p_other w s m = none_p

  one_step_sound : (s : List Name) → Post (Took 8 s) (one_step R s)
  one_step_sound [] = none_p
  one_step_sound (w ∷ s) = start_sound (look w) w s (look-means w)

  -- a chain
  chain_by_sound : (o : Option Tie) (n m : ℕ) (a : Expr) (s₀ : List Name) (w : Name) (s : List Name) → IsExpr m s₀ a → n ≤ m → m ≤ 8 → Ends (suc m) (w ∷ s) → op_of (look w) ≡ o
      → Post (λ e r. Took n (s₀ ++ (w ∷ s)) e r × Ends n r) (chain_by R n a (w ∷ s) s o)
  chain_by_sound none n m a s₀ w s x h k b q = got_p (record { used = s₀; all = refl; is = down m n h (omega arith) x }, λ t e. absurd (none-ne-some t (sym q ∙ e)))
  chain_by_sound (some t) n m a s₀ w s x h k b q =
      let d : Ties t w = tie-of w t q in
      let low : t.lvl < 8 = ties_low d in
      let at : t.lvl < suc m = b t q in
      post-pick (leb n t.lvl)
      (λ y.
      let ge : n ≤ t.lvl = leb→le n t.lvl y in
      post-bind _ (climb_sound (suc t.lvl) s (omega arith)) (λ f r g.
      rw (g.0.all, ← (append_assoc s₀ (w ∷ g.0.used) r))
      (S.chain_s n t.lvl (join t.op a f) (s₀ ++ (w ∷ g.0.used)) r (ties_ex d (down m t.lvl (omega arith) (omega arith) x) g.0.is) ge (omega arith) g.1)))
      (λ y. got_p (
        record { used = s₀; all = refl; is = down m n h (omega arith) x },
        λ u e.
            let lt : t.lvl < n = nleb→lt n t.lvl y in
            rw (some-injective u t (sym e ∙ q)) lt,
      ))

  chain_step_sound : (n m : ℕ) (a : Expr) (s₀ s : List Name) → IsExpr m s₀ a → n ≤ m → m ≤ 8 → Ends (suc m) s → Post (λ e r. Took n (s₀ ++ s) e r × Ends n r) (chain_step R n a s)
  chain_step_sound n m a s₀ [] x h k b = got_p (record { used = s₀; all = refl; is = down m n h (omega arith) x }, tt)
  chain_step_sound n m a s₀ (w ∷ s) x h k b = chain_by_sound (op_of (look w)) n m a s₀ w s x h k b refl

  step_sound : Sound (step R)
  step_sound = record { one_s = one_step_sound; chain_s = chain_step_sound; args_s = next_arg_sound }

stop-sound : (n m : ℕ) (a : Expr) (s₀ s : List Name) → IsExpr m s₀ a → n ≤ m → m ≤ 8 → Ends (suc m) s → Post (λ e r. Took n (s₀ ++ s) e r × Ends n r) (stop n a s)
stop-sound n m a s₀ [] x h k b = got_p (record { used = s₀; all = refl; is = down m n h (omega arith) x }, tt)
stop-sound n m a s₀ (w ∷ s) x h k b = none_p

pub up_to_sound : (f : ℕ) → Sound (up_to f)
unfolding up_to
up_to_sound zero = record { one_s = λ s. none_p; chain_s = stop-sound; args_s = λ e s₀ s x. none_p }
up_to_sound (suc f) = step_sound (up_to f) (up_to_sound f)

pub reader-sound : Sound reader
unfolding reader
reader-sound = record {
  one_s = λ s. (up_to_sound (length s)).one_s s;
  chain_s = λ n m a s₀ s x h k b. (up_to_sound (length s)).chain_s n m a s₀ s x h k b;
  args_s = λ e s₀ s x. (up_to_sound (length s)).args_s e s₀ s x;
}
