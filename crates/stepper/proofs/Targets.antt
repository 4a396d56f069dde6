-- Targets of jumps in a row of steps: what stands at a step's third word is its target, and another word there is another target.
use Rattle.std.proofs.Common.{◌≡◌, ℕ, zero, suc, ◌+◌, ◌*◌, ◌<◌, ◌≤◌, ◌⊎◌, List, [], ◌∷◌, ◌++◌, length, get_or, set, sym, refl, ap, ◌∙◌, subst, inl, inr, arith, get_or-take}
use Rattle.std.proofs.lemmas.List.{length-take-le, get_or-append-add}
use Rattle.language.specs.Syntax.{put}
use Rattle.rows.specs.declared.row.Row.{Row}
use Rattle.rows.specs.Row.{written, Wrote, Patched}
use Rattle.rows.specs.Trees.{list_row}
use Rattle.steps.specs.Steps.{Step, s_num, s_copy, s_bin, s_un, s_flag, s_getw, s_setw, s_jump, s_jz, s_call, s_table, s_out, s_ret, s_in, s_idx, s_put, s_len}
use Rattle.generator.specs.Emit.{target_of, aim, target_at, aim_at}
use Rattle.generator.specs.StepRows.{step_words}

abbrev IsJump : ℕ → Type 0
IsJump t = (t ≡ 7) ⊎ (t ≡ 8)

-- no jump has this tag
other : (t : ℕ) {P : Type 0} → (t ≡ 7 → ⊥) → (t ≡ 8 → ⊥) → IsJump t → P
other t no7 no8 (inl e) = absurd (no7 e)
other t no7 no8 (inr e) = absurd (no8 e)

-- a jump's target is its third word
pub record Aims (s : Step) (rest : List ℕ) : Type 0 where
  pub was : get_or (step_words s ++ rest) 2 0 ≡ target_of s
  pub is : (u : ℕ) → put (step_words s ++ rest) 2 u ≡ step_words (aim u s) ++ rest

aims : (s : Step) (rest : List ℕ) → IsJump (get_or (step_words s ++ rest) 0 0) → Aims s rest
aims (s_num d n) rest = other 0 (λ h. omega arith) (λ h. omega arith)
aims (s_copy d a) rest = other 1 (λ h. omega arith) (λ h. omega arith)
aims (s_bin o d a b) rest = other 2 (λ h. omega arith) (λ h. omega arith)
aims (s_un o d a) rest = other 3 (λ h. omega arith) (λ h. omega arith)
aims (s_flag d a) rest = other 4 (λ h. omega arith) (λ h. omega arith)
aims (s_getw d i) rest = other 5 (λ h. omega arith) (λ h. omega arith)
aims (s_setw i a) rest = other 6 (λ h. omega arith) (λ h. omega arith)
aims (s_jump t) rest = λ _. record { was = refl; is = λ u. refl }
aims (s_jz a t) rest = λ _. record { was = refl; is = λ u. refl }
aims (s_call d f k n os) rest = other 9 (λ h. omega arith) (λ h. omega arith)
aims (s_table d i t k n os) rest = other 13 (λ h. omega arith) (λ h. omega arith)
aims (s_out a) rest = other 10 (λ h. omega arith) (λ h. omega arith)
aims (s_ret a) rest = other 11 (λ h. omega arith) (λ h. omega arith)
aims (s_in d) rest = other 12 (λ h. omega arith) (λ h. omega arith)
aims (s_idx d o i) rest = other 14 (λ h. omega arith) (λ h. omega arith)
aims (s_put w o i a) rest = other 15 (λ h. omega arith) (λ h. omega arith)
aims (s_len d o) rest = other 16 (λ h. omega arith) (λ h. omega arith)

-- a step that is no jump has no target
pub record Plain (s : Step) : Type 0 where
  pub none : target_of s ≡ 0
  pub stays : (u : ℕ) → aim u s ≡ s

plain : (s : Step) (rest : List ℕ) → (get_or (step_words s ++ rest) 0 0 ≡ 7 → ⊥) → (get_or (step_words s ++ rest) 0 0 ≡ 8 → ⊥) → Plain s
plain (s_num d n) rest h k = record { none = refl; stays = λ u. refl }
plain (s_copy d a) rest h k = record { none = refl; stays = λ u. refl }
plain (s_bin o d a b) rest h k = record { none = refl; stays = λ u. refl }
plain (s_un o d a) rest h k = record { none = refl; stays = λ u. refl }
plain (s_flag d a) rest h k = record { none = refl; stays = λ u. refl }
plain (s_getw d i) rest h k = record { none = refl; stays = λ u. refl }
plain (s_setw i a) rest h k = record { none = refl; stays = λ u. refl }
plain (s_jump t) rest h k = absurd (h refl)
plain (s_jz a t) rest h k = absurd (k refl)
plain (s_call d f n m os) rest h k = record { none = refl; stays = λ u. refl }
plain (s_table d i t n m os) rest h k = record { none = refl; stays = λ u. refl }
plain (s_out a) rest h k = record { none = refl; stays = λ u. refl }
plain (s_ret a) rest h k = record { none = refl; stays = λ u. refl }
plain (s_in d) rest h k = record { none = refl; stays = λ u. refl }
plain (s_idx d o i) rest h k = record { none = refl; stays = λ u. refl }
plain (s_put w o i a) rest h k = record { none = refl; stays = λ u. refl }
plain (s_len d o) rest h k = record { none = refl; stays = λ u. refl }

-- five words on
abbrev on5 : ℕ → ℕ
on5 n = suc (suc (suc (suc (suc n))))

pub record Behind (s : Step) (rest : List ℕ) : Type 0 where
  pub word : (n : ℕ) → get_or (step_words s ++ rest) (on5 n) 0 ≡ get_or rest n 0
  pub other : (n u : ℕ) → put (step_words s ++ rest) (on5 n) u ≡ step_words s ++ put rest n u
  pub long : length (step_words s ++ rest) ≡ on5 (length rest)

behind : (s : Step) (rest : List ℕ) → Behind s rest
behind (s_num d n) rest = record { word = λ n. refl; other = λ n u. refl; long = refl }
behind (s_copy d a) rest = record { word = λ n. refl; other = λ n u. refl; long = refl }
behind (s_bin o d a b) rest = record { word = λ n. refl; other = λ n u. refl; long = refl }
behind (s_un o d a) rest = record { word = λ n. refl; other = λ n u. refl; long = refl }
behind (s_flag d a) rest = record { word = λ n. refl; other = λ n u. refl; long = refl }
behind (s_getw d i) rest = record { word = λ n. refl; other = λ n u. refl; long = refl }
behind (s_setw i a) rest = record { word = λ n. refl; other = λ n u. refl; long = refl }
behind (s_jump t) rest = record { word = λ n. refl; other = λ n u. refl; long = refl }
behind (s_jz a t) rest = record { word = λ n. refl; other = λ n u. refl; long = refl }
behind (s_call d f k m os) rest = record { word = λ n. refl; other = λ n u. refl; long = refl }
behind (s_table d i t k m os) rest = record { word = λ n. refl; other = λ n u. refl; long = refl }
behind (s_out a) rest = record { word = λ n. refl; other = λ n u. refl; long = refl }
behind (s_ret a) rest = record { word = λ n. refl; other = λ n u. refl; long = refl }
behind (s_in d) rest = record { word = λ n. refl; other = λ n u. refl; long = refl }
behind (s_idx d o i) rest = record { word = λ n. refl; other = λ n u. refl; long = refl }
behind (s_put w o i a) rest = record { word = λ n. refl; other = λ n u. refl; long = refl }
behind (s_len d o) rest = record { word = λ n. refl; other = λ n u. refl; long = refl }

pub steps-long : (ss : List Step) → length (list_row step_words ss) ≡ 5 * length ss
steps-long [] = refl
steps-long (s ∷ ss) = let e = steps-long ss in let f = (behind s (list_row step_words ss)).long in omega arith

-- the word where a step begins
abbrev pub far : ℕ → ℕ
far zero = 0
far (suc i) = on5 (far i)

pub far-is : (i : ℕ) → far i ≡ 5 * i
far-is zero = refl
far-is (suc i) = let e = far-is i in omega arith

abbrev tag_at : List Step → ℕ → ℕ
tag_at ss i = get_or (list_row step_words ss) (far i) 0

pub row-was : (ss : List Step) (i : ℕ) → i < length ss → IsJump (tag_at ss i) → get_or (list_row step_words ss) (suc (suc (far i))) 0 ≡ target_at ss i
row-was [] i l j = absurd (let z : ⊥ = omega arith in z)
row-was (s ∷ ss) zero l j = (aims s (list_row step_words ss) j).was
row-was (s ∷ ss) (suc i) l j =
    let b = behind s (list_row step_words ss) in
    b.word (suc (suc (far i))) ∙ row-was ss i (omega arith) (subst IsJump (b.word (far i)) j)

pub row_is : (ss : List Step) (i u : ℕ) → i < length ss → IsJump (tag_at ss i) → put (list_row step_words ss) (suc (suc (far i))) u ≡ list_row step_words (aim_at ss i u)
row_is [] i u l j = absurd (let z : ⊥ = omega arith in z)
row_is (s ∷ ss) zero u l j = (aims s (list_row step_words ss) j).is u
row_is (s ∷ ss) (suc i) u l j =
    let b = behind s (list_row step_words ss) in
    b.other (suc (suc (far i))) u ∙ ap (λ r. step_words s ++ r) (row_is ss i u (omega arith) (subst IsJump (b.word (far i)) j))

pub plain-was : (ss : List Step) (i : ℕ) → (tag_at ss i ≡ 7 → ⊥) → (tag_at ss i ≡ 8 → ⊥) → target_at ss i ≡ 0
plain-was [] i h k = refl
plain-was (s ∷ ss) zero h k = (plain s (list_row step_words ss) h k).none
plain-was (s ∷ ss) (suc i) h k =
    let b = behind s (list_row step_words ss) in
    plain-was ss i (λ e. h (b.word (far i) ∙ e)) (λ e. k (b.word (far i) ∙ e))

pub plain-is : (ss : List Step) (i u : ℕ) → (tag_at ss i ≡ 7 → ⊥) → (tag_at ss i ≡ 8 → ⊥) → aim_at ss i u ≡ ss
plain-is [] i u h k = refl
plain-is (s ∷ ss) zero u h k = ap (λ x. x ∷ ss) ((plain s (list_row step_words ss) h k).stays u)
plain-is (s ∷ ss) (suc i) u h k =
    let b = behind s (list_row step_words ss) in
    ap (λ xs. s ∷ xs) (plain-is ss i u (λ e. h (b.word (far i) ∙ e)) (λ e. k (b.word (far i) ∙ e)))

pub past-was : (ss : List Step) (i : ℕ) → length ss ≤ i → target_at ss i ≡ 0
past-was [] i h = refl
past-was (s ∷ ss) zero h = absurd (let z : ⊥ = omega arith in z)
past-was (s ∷ ss) (suc i) h = past-was ss i (omega arith)

pub past_is : (ss : List Step) (i u : ℕ) → length ss ≤ i → aim_at ss i u ≡ ss
past_is [] i u h = refl
past_is (s ∷ ss) zero u h = absurd (let z : ⊥ = omega arith in z)
past_is (s ∷ ss) (suc i) u h = ap (λ xs. s ∷ xs) (past_is ss i u (omega arith))

pub aim-long : (ss : List Step) (i u : ℕ) → length (aim_at ss i u) ≡ length ss
aim-long [] i u = refl
aim-long (s ∷ ss) zero u = refl
aim-long (s ∷ ss) (suc i) u = ap suc (aim-long ss i u)

pub written-long : (o : Row) → o.len ≡ length (written o)
written-long o = sym (length-take-le o.len o.words.now o.ok)

-- what was written stands in the words
pub word_at : {o p : Row} {ws : List ℕ} (k j : ℕ) → j ≡ o.len + k → Wrote o p ws → k < length ws → get_or p.words.now j 0 ≡ get_or ws k 0
word_at {o} {p} {ws} k j e f h =
    let l = f.long in
    sym (get_or-take p.len p.words.now j 0 (omega arith))
    ∙ ap (λ v. get_or v j 0) f.grown
    ∙ ap (λ n. get_or (written o ++ ws) n 0) (e ∙ ap (λ n. n + k) (written-long o))
    ∙ get_or-append-add (written o) ws k 0

put-far : (s a : List ℕ) (n v : ℕ) → put (s ++ a) (length s + n) v ≡ s ++ put a n v
put-far [] a n v = ap (λ k. put a k v) (let z : 0 + n ≡ n = omega arith in z)
put-far (x ∷ s) a n v = ap (λ k. put (x ∷ (s ++ a)) k v) (let z : suc (length s) + n ≡ suc (length s + n) = omega arith in z) ∙ ap {B = List ℕ} (λ l. x ∷ l) (put-far s a n v)

put-long : (s : List ℕ) (n v : ℕ) → length (put s n v) ≡ length s
put-long [] n v = refl
put-long (x ∷ s) zero v = refl
put-long (x ∷ s) (suc n) v = ap suc (put-long s n v)

-- a word put in anywhere among those written
pub wrote-put : {o p q : Row} {ws : List ℕ} (k j v : ℕ) → j ≡ o.len + k → Wrote o p ws → Patched p q j v → Wrote o q (put ws k v)
wrote-put {o} {p} {q} {ws} k j v e f g = record {
  grown = g.changed ∙ (ap (λ s. put s j v) f.grown ∙ (ap (λ n. put (written o ++ ws) n v) (e ∙ ap (λ n. n + k) (written-long o)) ∙ put-far (written o) ws k v));
  long = let a = g.long in let b = f.long in omega (arith, put-long ws k v);
  kept = g.kept ∙ f.kept;
  same = g.same ∙ f.same;
}

pub set_past : (l : List ℕ) (i v : ℕ) → length l ≤ i → set l i v ≡ l
set_past [] i v h = refl
set_past (x ∷ l) zero v h = absurd (let z : ⊥ = omega arith in z)
set_past (x ∷ l) (suc i) v h = ap (λ r. x ∷ r) (set_past l i v (omega arith))
