-- Rows of loads and stores around a call.
use mathlib.Core.Path.{◌≡◌, refl, sym, ap, subst, ◌∙◌}
use mathlib.Core.Bool.{◌&&◌, ◌||◌}
use mathlib.Core.Logic.{◌⊎◌, inl, inr}
use mathlib.Core.List.{List, [], ◌∷◌, ◌++◌}
use mathlib.Core.Option.{Option, some, none}
use Prim.Native.Nat.{ℕ, zero, suc, ◌+◌, ◌≤◌, ◌<◌}
use native.Mathlib.Omega.{arith}
use native.Mathlib.Decide.{ℕ_discrete}
use native.Mathlib.Nat.{add-zero, zero-add, add-suc, suc-add}
use lib.ListN.{length, replicate}
use lib.Dec.{T, ltb, leb}
use borrow.Author.Tests.{eq-eqb, ne_eqb, lt-ltb, le-leb}
use Rattle.language.specs.Syntax.{pick, nth}
use Rattle.language.specs.Words.{all}
use Rattle.lower.specs.Lower.{loads, stores}
use Rattle.lower.proofs.InRow.{Seg, past}
use Rattle.steps.specs.Steps.{Places, args}
use Rattle.lower.proofs.Lists.{length-put, nth-put-same, nth-put-other, none-some}
use Rattle.lower.proofs.Instructions.{Env, V, gp, wr, sets, keeps, Steps, here, ◌▸◌, d_lw, d_sw}
use Rattle.lower.proofs.Operators.{regs_to}
use Rattle.language.specs.Meaning.{on_some}
use Rattle.lower.proofs.Match.{Frame}

pub gp_free : (q : ℕ) → 5 ≤ q → q < 32 → T (gp q)
gp_free q h k = subst T (sym (ap (λ b. b || (leb 5 q && ltb q 32)) (ne_eqb q 1 (omega arith)) ∙ ap (λ b. b && ltb q 32) (le-leb 5 q h) ∙ lt-ltb q 32 k)) tt

pub wr-same : (r : ℕ → ℕ) (d x : ℕ) → wr r d x d ≡ x
wr-same r d x = ap (λ b. pick b x (r d)) (eq-eqb d d refl)

pub wr-other : (r : ℕ → ℕ) (d x i : ℕ) → (i ≡ d → ⊥) → wr r d x i ≡ r i
wr-other r d x i n = ap (λ b. pick b x (r i)) (ne_eqb i d n)

pub on-some-is : {A B : Type 0} (o : Option A) (f : A → Option B) (y : B) → on_some o f ≡ some y → (x : A) × (o ≡ some x) × (f x ≡ some y)
on-some-is none f y h = none-some y h
on-some-is (some x) f y h = (x, refl, h)

-- the arguments are what the places hold
pub gathered : (ps : Places) (k n : ℕ) (xs : List ℕ) → args ps k (suc n) ≡ some xs → (x : ℕ) × (ys : List ℕ) × (ps k ≡ some x) × (args ps (suc k) n ≡ some ys) × (xs ≡ x ∷ ys)
gathered ps k n xs h = let (x, p, u) = on-some-is (ps k) (λ x. on_some (args ps (suc k) n) (λ ys. some (x ∷ ys))) xs h in let (ys, q, w) = on-some-is (args ps (suc k) n) (λ ys. some (x ∷ ys)) xs u in (x, ys, p, q, cc)

pub args-length : (ps : Places) (k n : ℕ) (xs : List ℕ) → args ps k n ≡ some xs → length xs ≡ n
args-length ps k zero xs h = let e : xs ≡ [] = cc in ap length e
args-length ps k (suc n) xs h = let (x, ys, p, q, e) = gathered ps k n xs h in ap length e ∙ ap suc (args-length ps (suc k) n ys q)

each_more : (b y : ℕ) (ys : List ℕ) → y < b → ((j x : ℕ) → nth ys j ≡ some x → x < b) → (j x : ℕ) → nth (y ∷ ys) j ≡ some x → x < b
each_more b y ys h k zero x i = let e : y ≡ x = cc in rw e at h
each_more b y ys h k (suc j) x i = k j x i

pub args-small : (cs : List ℕ) (b : ℕ) (ps : Places) → Frame cs b ps → (k n : ℕ) (xs : List ℕ) → args ps k n ≡ some xs → (j x : ℕ) → nth xs j ≡ some x → x < all
args-small cs b ps f k zero xs h j x i = let e : xs ≡ [] = cc in none-some x (rw e at i)
args-small cs b ps f k (suc n) xs h j x i = let (y, ys, p, q, e) = gathered ps k n xs h in each_more all y ys (f k y p).1 (args-small cs b ps f (suc k) n ys q) j x (rw e at i)

-- arguments come into registers
first_more : (r : ℕ → ℕ) (q x : ℕ) (ys xs : List ℕ) → xs ≡ x ∷ ys → r q ≡ x → ((j y : ℕ) → nth ys j ≡ some y → r (suc q + j) ≡ y) → (j y : ℕ) → nth xs j ≡ some y → r (q + j) ≡ y
first_more r q x ys xs e z m zero y h = let k : nth (x ∷ ys) 0 ≡ some y = rw e at h in let l : x ≡ y = cc in ap r (add-zero q) ∙ z ∙ l
first_more r q x ys xs e z m (suc j) y h = let k : nth (x ∷ ys) (suc j) ≡ some y = rw e at h in let l : q + suc j ≡ suc q + j = omega arith in ap r l ∙ m j y k

pub loads_run : (e : Env) (ps : Places) (n q k : ℕ) (v : V) (xs : List ℕ) → Frame v.cells v.sp ps → 5 ≤ q → q + n ≤ 32 → args ps k n ≡ some xs → Seg e.row v.pc (loads q k n) → (r : ℕ → ℕ) × Steps e (regs_to v r (past v.pc (loads q k n))) v × ((j x : ℕ) → nth xs j ≡ some x → r (q + j) ≡ x) × ((i : ℕ) → i < q → r i ≡ v.r i)
loads_run e ps zero q k v xs f a b h g = (v.r, here, (λ j x i. let e : xs ≡ [] = cc in none-some x (rw e at i)), λ i l. refl)
loads_run e ps (suc n) q k v xs f a b h g =
    let (x, ys, p, u, w) = gathered ps k n xs h in
    let (r, t, m, o) = loads_run e ps n (suc q) (suc k) (sets v q x) ys f (omega arith) (omega arith) u g.1 in
    (r, d_lw g.0 (gp_free q a (omega arith)) (f k x p).0 ▸ t, first_more r q x ys xs w (o q (omega arith) ∙ wr-same v.r q x) m, λ i l. o i (omega arith) ∙ wr-other v.r q x i (omega arith))

-- registers go to places
abbrev pub cells_to : V → List ℕ → ℕ → V
cells_to v cs p = record { r = v.r; sp = v.sp; pc = p; cells = cs; ins = v.ins; outs = v.outs }

pub record Stored (e : Env) (rg : ℕ → ℕ) (n k : ℕ) (v : V) : Type 0 where
  pub cs : List ℕ
  pub steps : Steps e (cells_to v cs (past v.pc (stores rg k n))) v
  pub new : (j : ℕ) → k ≤ j → j < k + n → nth cs (v.sp + suc j) ≡ some (v.r (rg j))
  pub old : (i : ℕ) → (i ≤ v.sp + k) ⊎ ((v.sp + k) + n < i) → nth cs i ≡ nth v.cells i
  pub long : length cs ≡ length v.cells

past_first : (i b n : ℕ) → (i ≤ b) ⊎ (b + suc n < i) → (i ≤ suc b) ⊎ (suc b + n < i)
past_first i b n (inl h) = inl (omega arith)
past_first i b n (inr h) = inr (omega arith)

pub stores_run : (e : Env) (rg : ℕ → ℕ) (n k : ℕ) (v : V) → ((j : ℕ) → k ≤ j → j < k + n → T (gp (rg j))) → length v.cells ≡ e.total → (v.sp + k) + n < e.total → Seg e.row v.pc (stores rg k n) → Stored e rg n k v
stores_run e rg zero k v a l b g = record { cs = v.cells; steps = here; new = λ j h i. absurd (let z : ⊥ = omega arith in z); old = λ i h. refl; long = refl }
stores_run e rg (suc n) k v a l b g = more (stores_run e rg n (suc k) (keeps v (v.sp + suc k) (v.r (rg k))) (λ j h i. a j (omega arith) (omega arith)) (length-put v.cells (v.sp + suc k) (v.r (rg k)) ∙ l) (omega arith) g.1)
  where
    more : Stored e rg n (suc k) (keeps v (v.sp + suc k) (v.r (rg k))) → Stored e rg (suc n) k v
    more t =
        record {
          cs = t.cs;
          steps = d_sw g.0 (a k (omega arith) (omega arith)) (omega arith) ▸ t.steps;
          new = λ j h i. at j h i (ℕ_discrete k j);
          old = λ i h. t.old i (rw add-suc (past_first i (v.sp + k) n h)) ∙ nth-put-other v.cells (v.sp + suc k) i (v.r (rg k)) (omega arith);
          long = t.long ∙ length-put v.cells (v.sp + suc k) (v.r (rg k));
        }
      where
        at : (j : ℕ) → k ≤ j → j < k + suc n → Dec (k ≡ j) → nth t.cs (v.sp + suc j) ≡ some (v.r (rg j))
        at j h i (yes q) = rw (← q) (t.old (v.sp + suc k) (inl (omega arith)) ∙ nth-put-same v.cells (v.sp + suc k) (v.r (rg k)) (omega arith))
        at j h i (no q) = t.new j (omega arith) (omega arith)

-- rows behind one another, read from the front
pub nth-split : {A : Type 0} (xs ys : List A) (i : ℕ) (x : A) → nth (xs ++ ys) i ≡ some x → (nth xs i ≡ some x) ⊎ ((j : ℕ) × (i ≡ length xs + j) × (nth ys j ≡ some x))
nth-split [] ys i x h = inr (i, sym (zero-add i), h)
nth-split (y ∷ xs) ys zero x h = inl h
nth-split (y ∷ xs) ys (suc i) x h = elim (nth-split xs ys i x h) [ inl k ↦ inl k | inr k ↦ inr (k.0, ap suc k.1 ∙ sym (suc-add (length xs) k.0), k.2) ]

pub nth-same : {A : Type 0} (n i : ℕ) (a b : A) → nth (replicate n a) i ≡ some b → (i < n) × (a ≡ b)
nth-same zero i a b h = none-some b h
nth-same (suc n) zero a b h = (omega arith, cc)
nth-same (suc n) (suc i) a b h = let (k, l) = nth-same n i a b h in (omega arith, l)
