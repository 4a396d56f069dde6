-- A loop over what stands one after another in a row, which pushes words for each.
use Rattle.std.proofs.Common.{◌≡◌, ℕ, List, [], ◌∷◌, ◌++◌, sym, refl, ◌∙◌, subst, ap₂, append_assoc, append-nil}
use Rattle.rows.specs.declared.row.Row.{Row}
use Rattle.rows.specs.Row.{Pushed}
use Rattle.rows.specs.Trees.{list_row}
use Rattle.rows.proofs.Writing.{pushed_more, pushed_none}
use Rattle.steps.specs.Fits.{Each}
use Rattle.resolver.specs.Sound.{Lent}

pub pushed_as : {o q : Row} {ws vs : List ℕ} → ws ≡ vs → Pushed o q ws → Pushed o q vs
pushed_as {o} {q} e h = subst (λ (u : List ℕ). Pushed o q u) e h

pub lent_none : (o : Row) → Lent o o
lent_none o = record { kept = refl; same = refl }

pub lent-more : {o p q : Row} → Lent o p → Lent p q → Lent o q
lent-more f g = record { kept = g.kept ∙ f.kept; same = g.same ∙ f.same }

pub lent-pushed : {o p q : Row} {ws : List ℕ} → Lent o p → Pushed p q ws → Lent o q
lent-pushed f g = record { kept = g.kept ∙ f.kept; same = g.same ∙ f.same }

-- of xs, each of which is as Q says, those in ls are left: what the others become was pushed
pub record Pushing {A : Type 0} (to : A → List ℕ) (Q : A → Type 0) (xs : List A) (o q : Row) (ls : List A) : Type 0 where
  pub right : Each Q ls
  pub words : List ℕ
  pub pushed : Pushed o q words
  pub is : words ++ list_row to ls ≡ list_row to xs

pub pushing_none : {A : Type 0} {to : A → List ℕ} {Q : A → Type 0} (xs : List A) (o : Row) → Each Q xs → Pushing to Q xs o o xs
pushing_none xs o r = record { right = r; words = []; pushed = pushed_none o; is = refl }

module _ {A : Type 0} {to : A → List ℕ} {Q : A → Type 0} {xs : List A} {o q : Row} where
  pub pushing_more : {r : Row} (x : A) (ls : List A) → Pushing to Q xs o q (x ∷ ls) → (Q x → Pushed q r (to x)) → Pushing to Q xs o r ls
  pushing_more x ls v it = record { right = v.right.1; words = v.words ++ to x; pushed = pushed_more v.pushed (it v.right.0); is = append_assoc v.words (to x) (list_row to ls) ∙ v.is }

  pub pushing_all : Pushing to Q xs o q [] → Pushed o q (list_row to xs)
  pushing_all v = pushed_as (sym (append-nil v.words) ∙ v.is) v.pushed

pub pushed-two : {o q : Row} {a b c d : ℕ} → a ≡ c → b ≡ d → Pushed o q (a ∷ b ∷ []) → Pushed o q (c ∷ d ∷ [])
pushed-two ea eb h = pushed_as (ap₂ (λ (x y : ℕ). x ∷ y ∷ []) ea eb) h
