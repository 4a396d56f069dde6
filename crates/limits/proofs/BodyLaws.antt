-- The nodes of a body passed one by one, up to its end.
use Rattle.std.proofs.Common.{◌≡◌, Bool, true, false, eqb, true≢false, ℕ, ◌+◌, ◌<◌, ◌≤◌, ◌⊎◌, inl, inr, List, [], ◌∷◌, length, sym, refl, ap, ◌∙◌, subst, arith}
use Rattle.language.specs.Syntax.{Expr, num, var, bin, un, and1, or1, idx, len, call, by_table, input, Exprs, no, and_then, Stmt, set1, store1, ex1, out1, if1, while1, ret1, break1, next1, Block, end, seq1}
use Rattle.rows.specs.Has.{Has}
use Rattle.rows.specs.Nodes.{Node, node_row, nodes_row, count, nodes_e, nodes_es, nodes_s, nodes_bs, nodes_b, n_num, n_var, n_bin, n_and, n_or, n_join, n_un, n_idx, n_len, n_call, n_by, n_in, n_set, n_store, n_ex, n_out, n_if, n_else, n_fi, n_loop, n_while, n_again, n_ret, n_break, n_next, n_end, n_arg}
use Rattle.rows.specs.NodeTags.{tag_of, tag_no}
use Rattle.rows.specs.declared.tag.Tag.{Tag}
use Rattle.rows.specs.declared.tag.Tag.TheVariants.{End}
use Rattle.rows.proofs.Having.{has_left, has_right, has_to}
use Rattle.limits.specs.declared.nodes.Body.{Body}
use Rattle.limits.specs.Body.{Closed, last, before, NodesLeft}

pub node-long : (t : Node) → 1 ≤ length (node_row t)
node-long (n_num n) = omega arith
node-long (n_var x) = omega arith
node-long (n_bin o) = omega arith
node-long n_and = omega arith
node-long n_or = omega arith
node-long n_join = omega arith
node-long (n_un o) = omega arith
node-long (n_idx x) = omega arith
node-long (n_len x) = omega arith
node-long (n_call n x) = omega arith
node-long (n_by n x) = omega arith
node-long n_in = omega arith
node-long (n_set x) = omega arith
node-long (n_store x) = omega arith
node-long n_ex = omega arith
node-long n_out = omega arith
node-long n_if = omega arith
node-long n_else = omega arith
node-long n_fi = omega arith
node-long n_loop = omega arith
node-long n_while = omega arith
node-long n_again = omega arith
node-long n_ret = omega arith
node-long n_break = omega arith
node-long n_next = omega arith
node-long n_end = omega arith
node-long (n_arg x) = omega arith

-- behind a node of a body
closed_behind : (t : Node) (ts : List Node) → Closed (t ∷ ts) → ((tag_of t ≡ End) × (ts ≡ [])) ⊎ ((tag_of t ≡ End → ⊥) × Closed ts)
closed_behind t ts last = inl (refl, refl)
closed_behind t ts (before u us other k) = inr (other, k)

none_closed : Closed [] → ⊥
none_closed c = elim c [ ]

then : (w : List ℕ) (a : ℕ) {n m : ℕ} (x : Node) (xs : List Node) → ((tag_of x ≡ End) × (xs ≡ [])) ⊎ ((tag_of x ≡ End → ⊥) × Closed xs) → ((tag_of x ≡ End) × (n ≡ 0)) ⊎ ((tag_of x ≡ End → ⊥) × (n + 1 ≡ m)) → length w + 1 ≤ a + m → ((xs ≡ []) × (n ≡ 0)) ⊎ (Closed xs × (length w ≤ a + n))
then w a x xs (inl e) (inl z) r = inl (e.1, z.1)
then w a x xs (inl e) (inr z) r = absurd (z.0 e.0)
then w a x xs (inr e) (inl z) r = absurd (e.0 z.0)
then w a x xs (inr e) (inr z) r = inr (e.1, omega (arith, z.1))

module _ {w : List ℕ} {s t : Body} {ts : List Node} (k : NodesLeft w s ts) (some : 0 < s.left) (to : (x : Node) → Has s.row.now s.here (node_row x) → t.here ≡ s.here + length (node_row x)) (lent : t.row.now ≡ s.row.now) (fewer : (x : Node) → Has s.row.now s.here (node_row x) → ((tag_of x ≡ End) × (t.left ≡ 0)) ⊎ ((tag_of x ≡ End → ⊥) × (t.left + 1 ≡ s.left))) where
  -- the first of those that are left is passed
  pub body_first : (x : Node) × (xs : List Node) × (ts ≡ x ∷ xs) × Has w s.here (node_row x) × NodesLeft w t xs
  body_first = go ts k.here k.ends
    where
      go : (vs : List Node) → Has w s.here (nodes_row vs) → ((vs ≡ []) × (s.left ≡ 0)) ⊎ (Closed vs × (length w ≤ s.here + s.left)) → (x : Node) × (xs : List Node) × (vs ≡ x ∷ xs) × Has w s.here (node_row x) × NodesLeft w t xs
      go vs h (inl e) = absurd (omega (arith, e.1))
      go [] h (inr (c, r)) = absurd (none_closed c)
      go (x ∷ xs) h (inr (c, r)) =
          let hx = has_left (node_row x) (nodes_row xs) h in
          let hs = subst (λ v. Has v s.here (node_row x)) (sym k.lent) hx in
          (x, xs, refl, hx, record { lent = lent ∙ k.lent; here = has_to (sym (to x hs)) (has_right (node_row x) (nodes_row xs) h); ends = then w t.here x xs (closed_behind x xs c) (fewer x hs) (omega (arith, to x hs, node-long x, r)) })

pub body_none : {w : List ℕ} {s : Body} {ts : List Node} → NodesLeft w s ts → s.left ≤ 0 → ts ≡ []
body_none {w} {s} {ts} k none = go ts k.here k.ends
  where
    go : (vs : List Node) → Has w s.here (nodes_row vs) → ((vs ≡ []) × (s.left ≡ 0)) ⊎ (Closed vs × (length w ≤ s.here + s.left)) → vs ≡ []
    go vs h (inl e) = e.0
    go [] h (inr c) = refl
    go (x ∷ xs) h (inr (c, r)) = absurd (omega (arith, (has_left (node_row x) (nodes_row xs) h).inside, node-long x, r))

-- a node that is no end, before a body
front : (t : Node) (ts : List Node) → eqb (tag_no (tag_of t)) 25 ≡ false → Closed ts → Closed (t ∷ ts)
front t ts o k = before t ts (λ e. true≢false (sym (ap (λ (g : Tag). eqb (tag_no g) 25) e) ∙ o)) k

mutual
  closed_e : (a : Bool) (e : Expr) (ns : List Node) → Closed ns → Closed (nodes_e a e ns)
  closed_e a (num n) ns k = front (n_num n) ns refl k
  closed_e true (var x) ns k = front (n_arg x) ns refl k
  closed_e false (var x) ns k = front (n_var x) ns refl k
  closed_e a (bin o e f) ns k = closed_e false e _ (closed_e false f _ (front (n_bin o) ns refl k))
  closed_e a (un o e) ns k = closed_e false e _ (front (n_un o) ns refl k)
  closed_e a (and1 e f) ns k = closed_e false e _ (front n_and _ refl (closed_e false f _ (front n_join ns refl k)))
  closed_e a (or1 e f) ns k = closed_e false e _ (front n_or _ refl (closed_e false f _ (front n_join ns refl k)))
  closed_e a (idx x e) ns k = closed_e false e _ (front (n_idx x) ns refl k)
  closed_e a (len x) ns k = front (n_len x) ns refl k
  closed_e a (call x es) ns k = closed_es es _ (front (n_call (count es) x) ns refl k)
  closed_e a (by_table x e es) ns k = closed_e false e _ (closed_es es _ (front (n_by (count es) x) ns refl k))
  closed_e a input ns k = front n_in ns refl k

  closed_es : (es : Exprs) (ns : List Node) → Closed ns → Closed (nodes_es es ns)
  closed_es no ns k = k
  closed_es (and_then e es) ns k = closed_e true e _ (closed_es es ns k)

mutual
  closed_s : (s : Stmt) (ns : List Node) → Closed ns → Closed (nodes_s s ns)
  closed_s (set1 x e) ns k = closed_e false e _ (front (n_set x) ns refl k)
  closed_s (store1 x i e) ns k = closed_e false i _ (closed_e false e _ (front (n_store x) ns refl k))
  closed_s (ex1 e) ns k = closed_e false e _ (front n_ex ns refl k)
  closed_s (out1 e) ns k = closed_e false e _ (front n_out ns refl k)
  closed_s (if1 e b c) ns k = closed_e false e _ (front n_if _ refl (closed_bs b _ (front n_else _ refl (closed_bs c _ (front n_fi ns refl k)))))
  closed_s (while1 e b) ns k = front n_loop _ refl (closed_e false e _ (front n_while _ refl (closed_bs b _ (front n_again ns refl k))))
  closed_s (ret1 e) ns k = closed_e false e _ (front n_ret ns refl k)
  closed_s break1 ns k = front n_break ns refl k
  closed_s next1 ns k = front n_next ns refl k

  closed_bs : (b : Block) (ns : List Node) → Closed ns → Closed (nodes_bs b ns)
  closed_bs end ns k = k
  closed_bs (seq1 s b) ns k = closed_s s _ (closed_bs b ns k)

pub closed_body : (b : Block) → Closed (nodes_b b)
closed_body b = closed_bs b (n_end ∷ []) last
