-- A loop over a list that the model parser reads from the right: what was read so far, its row, and how many there are.
use Rattle.std.proofs.Common.{◌≡◌, ℕ, ◌+◌, ◌<◌, ◌≤◌, List, [], ◌∷◌, ◌++◌, length, sym, refl, ap, ◌∙◌, subst, append_assoc, append-nil, arith, length-append}
use Rattle.language.specs.Syntax.{Name}
use Rattle.grammar.specs.Text.{pieces, gap}
use Rattle.grammar.specs.Parse.{Res, fail, got, bind}
use Rattle.rows.specs.declared.row.Row.{Row}
use Rattle.rows.specs.Row.{Wrote}
use Rattle.rows.specs.Trees.{list_row}
use Rattle.rows.proofs.Writing.{wrote-more, wrote_none}
use Rattle.bodies.specs.Outcome.{Spent}
use Rattle.bodies.proofs.Expressions.{bind-got}
use Rattle.pieces.specs.Seen.{Ate}
use Rattle.parser.specs.Lists.{DidList, Listable, Stands}
use Rattle.parser.proofs.Patching.{list_row-on}

-- from s the loop has come to r, past k elements: what M reads of s is what it read so far, before what it reads of r
pub record FarList {A : Type 0} (M : List Name → Res (List A)) (row : A → List ℕ) (s r : List ℕ) (k : ℕ) (o p : Row) : Type 0 where
  pub front : List A
  pub is : M (pieces gap s) ≡ bind (M (pieces gap r)) (λ xs q. got (front ++ xs) q)
  pub wrote : Wrote o p (list_row row front)
  pub num : length front ≡ k
  pub few : k + length r ≤ length s
  pub within : Spent 0 s r o p

same-bind : {A : Type 0} (m : Res (List A)) → m ≡ bind m (λ xs q. got xs q)
same-bind fail = refl
same-bind (got a r) = refl

more-bind : {A : Type 0} (f : List A) (x : A) (m : Res (List A)) → bind (bind m (λ xs q. got (x ∷ xs) q)) (λ xs q. got (f ++ xs) q) ≡ bind m (λ xs q. got ((f ++ (x ∷ [])) ++ xs) q)
more-bind f x fail = refl
more-bind f x (got xs q) = ap (λ l. got l q) (sym (append_assoc f (x ∷ []) xs))

module _ {A : Type 0} (M : List Name → Res (List A)) (row : A → List ℕ) where
  pub list_none : (s : List ℕ) (o : Row) → FarList M row s s 0 o o
  list_none s o = record { front = []; is = same-bind (M (pieces gap s)); wrote = wrote_none o; num = refl; few = omega arith; within = omega arith }

  pub list_on : {s r z : List ℕ} {k : ℕ} {o p v : Row} (x : A) → FarList M row s r k o p → M (pieces gap r) ≡ bind (M (pieces gap z)) (λ xs q. got (x ∷ xs) q) → Wrote p v (row x) → Spent 0 r z p v → length z < length r → FarList M row s z (k + 1) o v
  list_on {s} {r} {z} {k} {o} {p} {v} x f e w u h =
      let t = f.within in let n = f.num in let m = f.few in
      record {
        front = f.front ++ (x ∷ []);
        is = f.is ∙ ap (λ y. bind y (λ xs q. got (f.front ++ xs) q)) e ∙ more-bind f.front x (M (pieces gap z));
        wrote = subst (Wrote o v) (sym (list_row-on row f.front x)) (wrote-more f.wrote w);
        num = omega (arith, length-append f.front (x ∷ []));
        few = omega arith;
        within = omega arith;
      }

  pub list_last : {s r q : List ℕ} {k : ℕ} {o p v : Row} (x : A) → length s ≤ 32768 → FarList M row s r k o p → M (pieces gap r) ≡ got (x ∷ []) (pieces gap q) → Wrote p v (row x) → Spent 0 r q p v → length q < length r → DidList 0 (M (pieces gap s)) row s q (k + 1) o v
  list_last {s} {r} {q} {k} {o} {p} {v} x b f e w u h =
      let t = f.within in let n = f.num in let m = f.few in
      record {
        did = record {
          tree = f.front ++ (x ∷ []);
          is = f.is ∙ bind-got _ (x ∷ []) _ e;
          wrote = subst (Wrote o v) (sym (list_row-on row f.front x)) (wrote-more f.wrote w);
          within = omega arith;
          on = omega arith;
        };
        num = omega (arith, length-append f.front (x ∷ []));
        few = omega arith;
      }

  pub list_done : {s r : List ℕ} {k : ℕ} {o p : Row} → length s ≤ 32768 → FarList M row s r k o p → M (pieces gap r) ≡ got [] (pieces gap r) → DidList 1 (M (pieces gap s)) row s r k o p
  list_done {s} {r} b f e =
      let t = f.within in let m = f.few in
      record {
        did = record { tree = f.front; is = f.is ∙ bind-got _ [] _ e ∙ ap (λ l. got l (pieces gap r)) (append-nil f.front); wrote = f.wrote; within = omega arith; on = omega arith };
        num = f.num;
        few = omega arith;
      }

  -- the same by an element that is listed
  pub listed_on : {s t r z : List ℕ} {k n : ℕ} {o p v : Row} (x : A) → FarList M row s t k o p → Listable n M row x t r → Ate (44 ∷ []) r z → Wrote p v (row x) → FarList M row s z (k + 1) o v
  listed_on {z = z} x f e a w = let i = e.less in let j = e.room in let l = a.less in let m = w.long in list_on x f (e.more z a) w (omega arith) (omega arith)

  pub listed_last : {s t r q : List ℕ} {k n : ℕ} {o p v : Row} (x : A) → length s ≤ 32768 → FarList M row s t k o p → Listable n M row x t r → Ate (n ∷ []) r q → Wrote p v (row x) → DidList 0 (M (pieces gap s)) row s q (k + 1) o v
  listed_last {q = q} x b f e a w = let i = e.less in let j = e.room in let l = a.less in let m = w.long in list_last x b f (e.last q a) w (omega arith) (omega arith)

  -- the same by a part, and where none stands
  pub part_on : {s r z : List ℕ} {k : ℕ} {o p v : Row} → FarList M row s r k o p → Stands M row r z p v → FarList M row s z (k + 1) o v
  part_on f e = let i = e.on in list_on e.tree f e.is e.wrote e.within (omega arith)

  pub part_done : {s r : List ℕ} {k : ℕ} {o p v : Row} → length s ≤ 32768 → FarList M row s r k o p → M (pieces gap r) ≡ got [] (pieces gap r) → Wrote p v [] → DidList 1 (M (pieces gap s)) row s r k o v
  part_done {o = o} {v = v} b f e w =
      let t = f.within in let l = w.long in
      list_done b (record { front = f.front; is = f.is; wrote = subst (Wrote o v) (append-nil (list_row row f.front)) (wrote-more f.wrote w); num = f.num; few = f.few; within = omega arith }) e
