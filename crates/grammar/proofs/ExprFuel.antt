-- The reader of expressions is its own step: how many pieces it was to read at most does not matter once that is all there are.
-- Rests on ExprSound for `Post`; the equations of the model parser begin here.
use mathlib.Core.Path.{◌≡◌, refl, sym, ◌∙◌, ap}
use mathlib.Core.Bool.{Bool, true, false}
use mathlib.Core.List.{List, [], ◌∷◌}
use mathlib.Core.Option.{Option, some, none}
use Prim.Native.Nat.{ℕ, zero, suc, ◌≤◌, ◌<◌, suc-le-suc}
use native.Mathlib.Omega.{arith}
use native.Mathlib.Nat.{le_refl, le_of_suc-le-suc, not-suc-le-zero}
use lib.ListN.{length}
use lib.Dec.{leb, T}
use Rattle.language.specs.Syntax.{pick, Name, same, Expr, un, idx, call, by_table, and_then}
use Rattle.grammar.specs.Text.{t_lp, t_rp, t_lb, t_rb, is_name}
use Rattle.grammar.specs.Parse.{join, Tie, Piece, p_num, p_name, p_op, p_minus, p_before, p_lp, p_rp, p_lb, p_comma, p_len, p_call, p_in, p_other, look, op_of, After, a_call, a_index, a_none, after, Go, g_more, g_end, g_none, go_on, Res, fail, got, bind, eat, eat_name, Fns, climb, behind, args_by, args_of, next_by, next_arg, named, name, start, one_step, chain_by, chain_step, step, stop, up_to, reader}
use Rattle.grammar.specs.Equations.{Fixed}
use Rattle.grammar.proofs.ExprSound.{Post, none_p, got_p, post-bind, post-pick, post-eat, post-eat_name}

-- fewer pieces are left
abbrev pub Fewer : {A : Type 0} → List Name → A → List Name → Type 0
Fewer s a r = length r < length s

abbrev pub NoMore : {A : Type 0} → List Name → A → List Name → Type 0
NoMore s a r = length r ≤ length s

pub record Shrinks (R : Fns) : Type 0 where
  pub one_l : (s : List Name) → Post (Fewer s) (R.one s)
  pub chain_l : (n : ℕ) (a : Expr) (s : List Name) → Post (NoMore s) (R.chain n a s)
  pub args_l : (s : List Name) → Post (Fewer s) (R.args s)

pub weaken : {A : Type 0} {P Q : A → List Name → Type 0} {m : Res A} → Post P m → ((a : A) (r : List Name) → P a r → Q a r) → Post Q m
weaken none_p f = none_p
weaken (got_p {a} {r} p) f = got_p (f a r p)

module _ (R : Fns) (L : Shrinks R) where
  pub climb_l : (n : ℕ) (s : List Name) → Post (Fewer s) (climb R n s)
  climb_l n s = post-bind _ (L.one_l s) (λ e r h. weaken (L.chain_l n e r) (λ f q k. omega arith))

  behind_l : (e : Expr) (s : List Name) → Post (Fewer s) (behind R e s)
  behind_l e s = post-bind _ (L.args_l s) (λ es r h. got_p h)

  first_l : (s : List Name) → Post (Fewer s) (bind (climb R 0 s) (behind R))
  first_l s = post-bind _ (climb_l 0 s) (λ e r h. weaken (behind_l e r) (λ f q k. omega arith))

  args_by_l : (g : Go) (w : Name) (s : List Name) → Post (Fewer (w ∷ s)) (args_by R g (w ∷ s) s)
  args_by_l g_more w s = first_l (w ∷ s)
  args_by_l g_end w s = got_p (le_refl _)
  args_by_l g_none w s = first_l (w ∷ s)

  args_of_l : (s : List Name) → Post (Fewer s) (args_of R s)
  args_of_l [] = none_p
  args_of_l (w ∷ s) = args_by_l (go_on (look w)) w s

  next_by_l : (g : Go) (w : Name) (s : List Name) → Post (Fewer (w ∷ s)) (next_by R g s)
  next_by_l g_more w s = weaken (first_l s) (λ es r h. omega arith)
  next_by_l g_end w s = got_p (le_refl _)
  next_by_l g_none w s = none_p

  next_arg_l : (s : List Name) → Post (Fewer s) (next_arg R s)
  next_arg_l [] = none_p
  next_arg_l (w ∷ s) = next_by_l (go_on (look w)) w s

  named_l : (a : After) (x w : Name) (s : List Name) → Post (NoMore (w ∷ s)) (named R x a (w ∷ s) s)
  named_l a_call x w s = post-bind _ (args_of_l s) (λ es r h. got_p (omega arith))
  named_l a_index x w s = post-bind _ (climb_l 0 s) (λ e r h. post-eat t_rb r _ (λ r' q. got_p (omega (arith, ap length q))))
  named_l a_none x w s = got_p (le_refl _)

  name_l : (x : Name) (s : List Name) → Post (NoMore s) (name R x s)
  name_l x [] = got_p (le_refl _)
  name_l x (w ∷ s) = named_l (after (look w)) x w s

  start_l : (p : Piece) (w : Name) (s : List Name) → Post (NoMore s) (start R w p s)
  start_l (p_num n) w s = got_p (le_refl _)
  start_l p_name w s = name_l w s
  start_l (p_op t) w s = none_p
  start_l p_minus w s = post-bind _ (L.one_l s) (λ e r h. got_p (omega arith))
  start_l (p_before o) w s = post-bind _ (L.one_l s) (λ e r h. got_p (omega arith))
  start_l p_lp w s = post-bind _ (climb_l 0 s) (λ e r h. post-eat t_rp r _ (λ r' q. got_p (omega (arith, ap length q))))
  start_l p_rp w s = none_p
  start_l p_lb w s = none_p
  start_l p_comma w s = none_p
  start_l p_len w s =
      post-eat t_lp s _ (λ s₁ q₁. post-eat_name s₁ _ (λ x s₂ q₂ h. post-eat t_rp s₂ _ (λ s₃ q₃. got_p (omega (arith, ap length q₁, ap length q₂, ap length q₃)))))
  start_l p_call w s =
      post-eat_name s _ (λ x s₁ q₁ h. post-eat t_lb s₁ _ (λ s₂ q₂. post-bind _ (climb_l 0 s₂) (λ e r k. post-eat t_rb r _ (λ r₁ q₃. post-eat t_lp r₁ _ (λ r₂ q₄. post-bind _ (args_of_l r₂) (λ es r₃ g.
      got_p (omega (arith, ap length q₁, ap length q₂, ap length q₃, ap length q₄))))))))
  start_l p_in w s = post-eat t_lp s _ (λ s₁ q₁. post-eat t_rp s₁ _ (λ s₂ q₂. got_p (omega (arith, ap length q₁, ap length q₂))))
  start_l p_other w s = none_p

  one_step_l : (s : List Name) → Post (Fewer s) (one_step R s)
  one_step_l [] = none_p
  one_step_l (w ∷ s) = weaken (start_l (look w) w s) (λ e r h. suc-le-suc h)

  chain_by_l : (o : Option Tie) (n : ℕ) (a : Expr) (w : Name) (s : List Name) → Post (NoMore (w ∷ s)) (chain_by R n a (w ∷ s) s o)
  chain_by_l none n a w s = got_p (le_refl _)
  chain_by_l (some t) n a w s =
      post-pick (leb n t.lvl) (λ y. post-bind _ (climb_l (suc t.lvl) s) (λ f r h. weaken (L.chain_l n _ r) (λ g q k. omega arith))) (λ y. got_p (le_refl _))

  chain_step_l : (n : ℕ) (a : Expr) (s : List Name) → Post (NoMore s) (chain_step R n a s)
  chain_step_l n a [] = got_p (le_refl _)
  chain_step_l n a (w ∷ s) = chain_by_l (op_of (look w)) n a w s

stop-l : (n : ℕ) (a : Expr) (s : List Name) → Post (NoMore s) (stop n a s)
stop-l n a [] = got_p (le_refl _)
stop-l n a (w ∷ s) = none_p

pub up_to_l : (f : ℕ) → Shrinks (up_to f)
unfolding up_to
up_to_l zero = record { one_l = λ s. none_p; chain_l = stop-l; args_l = λ s. none_p }
up_to_l (suc f) = record { one_l = one_step_l (up_to f) (up_to_l f); chain_l = chain_step_l (up_to f) (up_to_l f); args_l = next_arg_l (up_to f) (up_to_l f) }

-- two readers that agree on up to m pieces
pub record Agree (m : ℕ) (R S : Fns) : Type 0 where
  pub one_a : (s : List Name) → length s ≤ m → R.one s ≡ S.one s
  pub chain_a : (n : ℕ) (a : Expr) (s : List Name) → length s ≤ m → R.chain n a s ≡ S.chain n a s
  pub args_a : (s : List Name) → length s ≤ m → R.args s ≡ S.args s

pub bind-same : {A C : Type 0} {P : A → List Name → Type 0} {m : Res A} (k k' : A → List Name → Res C) → Post P m → ((a : A) (r : List Name) → P a r → k a r ≡ k' a r) → bind m k ≡ bind m k'
bind-same k k' none_p f = refl
bind-same k k' (got_p {a} {r} p) f = f a r p

pub bind_agree : {A C : Type 0} {P : A → List Name → Type 0} {m m' : Res A} (k k' : A → List Name → Res C) → m ≡ m' → Post P m → ((a : A) (r : List Name) → P a r → k a r ≡ k' a r) → bind m k ≡ bind m' k'
bind_agree k k' e p f = bind-same k k' p f ∙ ap (λ x. bind x k') e

pub pick_agree : {A : Type 0} (b : Bool) (y : A) {x x' : A} → (T b → x ≡ x') → pick b x y ≡ pick b x' y
pick_agree true y f = f tt
pick_agree false y f = refl

pub eat_agree : {C : Type 0} (w : Name) (s : List Name) (k k' : List Name → Res C) → ((r : List Name) → length r < length s → k r ≡ k' r) → eat w s k ≡ eat w s k'
eat_agree w [] k k' f = refl
eat_agree w (x ∷ r) k k' f = pick_agree (same x w) _ (λ t. f r (le_refl _))

pub eat_name_agree : {C : Type 0} (s : List Name) (k k' : Name → List Name → Res C) → ((x : Name) (r : List Name) → length r < length s → k x r ≡ k' x r) → eat_name s k ≡ eat_name s k'
eat_name_agree [] k k' f = refl
eat_name_agree (x ∷ r) k k' f = pick_agree (is_name x) _ (λ t. f x r (le_refl _))

module _ (R S : Fns) (m : ℕ) (L : Shrinks R) (A : Agree m R S) where
  climb_a : (n : ℕ) (s : List Name) → length s ≤ m → climb R n s ≡ climb S n s
  climb_a n s h = bind_agree _ _ (A.one_a s h) (L.one_l s) (λ e r k. A.chain_a n e r (omega arith))

  behind_a : (e : Expr) (s : List Name) → length s ≤ m → behind R e s ≡ behind S e s
  behind_a e s h = ap (λ x. bind x (λ es r'. got (and_then e es) r')) (A.args_a s h)

  first_a : (s : List Name) → length s ≤ m → bind (climb R 0 s) (behind R) ≡ bind (climb S 0 s) (behind S)
  first_a s h = bind_agree _ _ (climb_a 0 s h) (climb_l R L 0 s) (λ e r k. behind_a e r (omega arith))

  args_by_a : (g : Go) (w s : List Name) → length w ≤ m → args_by R g w s ≡ args_by S g w s
  args_by_a g_more w s h = first_a w h
  args_by_a g_end w s h = refl
  args_by_a g_none w s h = first_a w h

  args_of_a : (s : List Name) → length s ≤ m → args_of R s ≡ args_of S s
  args_of_a [] h = refl
  args_of_a (w ∷ s) h = args_by_a (go_on (look w)) (w ∷ s) s h

  next_by_a : (g : Go) (s : List Name) → length s ≤ m → next_by R g s ≡ next_by S g s
  next_by_a g_more s h = first_a s h
  next_by_a g_end s h = refl
  next_by_a g_none s h = refl

  next_arg_a : (s : List Name) → length s ≤ suc m → next_arg R s ≡ next_arg S s
  next_arg_a [] h = refl
  next_arg_a (w ∷ s) h = next_by_a (go_on (look w)) s (le_of_suc-le-suc h)

  named_a : (a : After) (x : Name) (w s : List Name) → length s ≤ m → named R x a w s ≡ named S x a w s
  named_a a_call x w s h = ap (λ y. bind y (λ es r. got (call x es) r)) (args_of_a s h)
  named_a a_index x w s h = ap (λ y. bind y (λ e r. eat t_rb r (λ r'. got (idx x e) r'))) (climb_a 0 s h)
  named_a a_none x w s h = refl

  name_a : (x : Name) (s : List Name) → length s ≤ m → name R x s ≡ name S x s
  name_a x [] h = refl
  name_a x (w ∷ s) h = named_a (after (look w)) x (w ∷ s) s (omega arith)

  start_a : (p : Piece) (w : Name) (s : List Name) → length s ≤ m → start R w p s ≡ start S w p s
  start_a (p_num n) w s h = refl
  start_a p_name w s h = name_a w s h
  start_a (p_op t) w s h = refl
  start_a p_minus w s h = ap (λ y. bind y (λ e r. got (un 0 e) r)) (A.one_a s h)
  start_a (p_before o) w s h = ap (λ y. bind y (λ e r. got (un o e) r)) (A.one_a s h)
  start_a p_lp w s h = ap (λ y. bind y (λ e r. eat t_rp r (λ r'. got e r'))) (climb_a 0 s h)
  start_a p_rp w s h = refl
  start_a p_lb w s h = refl
  start_a p_comma w s h = refl
  start_a p_len w s h = refl
  start_a p_call w s h =
      eat_name_agree s _ _ (λ x s₁ h₁. eat_agree t_lb s₁ _ _ (λ s₂ h₂. bind_agree _ _ (climb_a 0 s₂ (omega arith)) (climb_l R L 0 s₂) (λ e r h₃. eat_agree t_rb r _ _ (λ r₁ h₄. eat_agree t_lp r₁ _ _ (λ r₂ h₅.
      ap (λ y. bind y (λ es r₃. got (by_table x e es) r₃)) (args_of_a r₂ (omega arith)))))))
  start_a p_in w s h = refl
  start_a p_other w s h = refl

  one_step_a : (s : List Name) → length s ≤ suc m → one_step R s ≡ one_step S s
  one_step_a [] h = refl
  one_step_a (w ∷ s) h = start_a (look w) w s (le_of_suc-le-suc h)

  chain_by_a : (o : Option Tie) (n : ℕ) (a : Expr) (w s : List Name) → length s ≤ m → chain_by R n a w s o ≡ chain_by S n a w s o
  chain_by_a none n a w s h = refl
  chain_by_a (some t) n a w s h = pick_agree (leb n t.lvl) _ (λ y. bind_agree _ _ (climb_a (suc t.lvl) s h) (climb_l R L (suc t.lvl) s) (λ b r k. A.chain_a n (join t.op a b) r (omega arith)))

  chain_step_a : (n : ℕ) (a : Expr) (s : List Name) → length s ≤ suc m → chain_step R n a s ≡ chain_step S n a s
  chain_step_a n a [] h = refl
  chain_step_a n a (w ∷ s) h = chain_by_a (op_of (look w)) n a (w ∷ s) s (le_of_suc-le-suc h)

  step_a : Agree (suc m) (step R) (step S)
  step_a = record { one_a = one_step_a; chain_a = chain_step_a; args_a = next_arg_a }

one-nil : (g : ℕ) → (up_to g).one [] ≡ fail
unfolding up_to
one-nil zero = refl
one-nil (suc g) = refl

args-nil : (g : ℕ) → (up_to g).args [] ≡ fail
unfolding up_to
args-nil zero = refl
args-nil (suc g) = refl

chain-nil : (g n : ℕ) (a : Expr) → (up_to g).chain n a [] ≡ got a []
unfolding up_to
chain-nil zero n a = refl
chain-nil (suc g) n a = refl

one_0 : (g : ℕ) (s : List Name) → length s ≤ 0 → (up_to 0).one s ≡ (up_to g).one s
one_0 g [] h = one-nil 0 ∙ sym (one-nil g)
one_0 g (w ∷ s) h = absurd (not-suc-le-zero h)

args_0 : (g : ℕ) (s : List Name) → length s ≤ 0 → (up_to 0).args s ≡ (up_to g).args s
args_0 g [] h = args-nil 0 ∙ sym (args-nil g)
args_0 g (w ∷ s) h = absurd (not-suc-le-zero h)

chain_0 : (g n : ℕ) (a : Expr) (s : List Name) → length s ≤ 0 → (up_to 0).chain n a s ≡ (up_to g).chain n a s
chain_0 g n a [] h = chain-nil 0 n a ∙ sym (chain-nil g n a)
chain_0 g n a (w ∷ s) h = absurd (not-suc-le-zero h)

pub up_to_a : (f g : ℕ) → f ≤ g → Agree f (up_to f) (up_to g)
unfolding up_to
up_to_a zero g h = record { one_a = one_0 g; chain_a = chain_0 g; args_a = args_0 g }
up_to_a (suc f) zero h = absurd (not-suc-le-zero h)
up_to_a (suc f) (suc g) h = step_a (up_to f) (up_to g) f (up_to_l f) (up_to_a f g (le_of_suc-le-suc h))

reader-a : (f : ℕ) → Agree f (up_to f) reader
unfolding reader
reader-a f = record {
  one_a = λ s h. sym ((up_to_a (length s) f h).one_a s (le_refl _));
  chain_a = λ n a s h. sym ((up_to_a (length s) f h).chain_a n a s (le_refl _));
  args_a = λ s h. sym ((up_to_a (length s) f h).args_a s (le_refl _));
}

reader-b : (f : ℕ) → Agree (suc f) (up_to (suc f)) (step reader)
unfolding up_to
reader-b f = step_a (up_to f) reader f (up_to_l f) (reader-a f)

-- what the reader does, with no count of how far
one_fix : (s : List Name) → reader.one s ≡ one_step reader s
unfolding reader
one_fix [] = one-nil 0
one_fix (w ∷ s) = (reader-b (length s)).one_a (w ∷ s) (le_refl _)

chain_fix : (n : ℕ) (a : Expr) (s : List Name) → reader.chain n a s ≡ chain_step reader n a s
unfolding reader
chain_fix n a [] = chain-nil 0 n a
chain_fix n a (w ∷ s) = (reader-b (length s)).chain_a n a (w ∷ s) (le_refl _)

args_fix : (s : List Name) → reader.args s ≡ next_arg reader s
unfolding reader
args_fix [] = args-nil 0
args_fix (w ∷ s) = (reader-b (length s)).args_a (w ∷ s) (le_refl _)

pub reader-fixed : Fixed reader
reader-fixed = record { one_is = one_fix; chain_is = chain_fix; args_is = args_fix }

pub reader-l : Shrinks reader
unfolding reader
reader-l = record { one_l = λ s. (up_to_l (length s)).one_l s; chain_l = λ n a s. (up_to_l (length s)).chain_l n a s; args_l = λ s. (up_to_l (length s)).args_l s }
