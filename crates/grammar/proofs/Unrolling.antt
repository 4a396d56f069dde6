-- A step that calls itself on fewer pieces, unrolled as often as there are pieces: its equation, and induction over it.
use mathlib.Core.Path.{◌≡◌}
use mathlib.Core.List.{List}
use Prim.Native.Nat.{ℕ, zero, suc, ◌<◌}
use native.Mathlib.Omega.{arith}
use native.Mathlib.Nat.{le_refl, not-suc-le-zero}
use lib.ListN.{length}
use Rattle.language.specs.Syntax.{Name}
use Rattle.grammar.specs.Parse.{Res}
use Rattle.grammar.specs.ParseAll.{up_to_f, again}
use Rattle.grammar.proofs.ExprSound.{Post, none_p}
use Rattle.grammar.proofs.ExprFuel.{NoMore}

abbrev pub Less : {A : Type 0} → (List Name → Res A) → Type 0
Less G = (s : List Name) → Post (NoMore s) (G s)

abbrev pub SameBelow : {A : Type 0} → (List Name → Res A) → (List Name → Res A) → List Name → Type 0
SameBelow G H s = (t : List Name) → length t < length s → G t ≡ H t

pub record Well {A : Type 0} (st : (List Name → Res A) → List Name → Res A) : Type 0 where
  pub less : (G : List Name → Res A) → Less G → Less (st G)
  pub only : (G H : List Name → Res A) → Less G → (s : List Name) → SameBelow G H s → st G s ≡ st H s

module _ {A : Type 0} (st : (List Name → Res A) → List Name → Res A) where
  by_steps : (Q : List Name → A → List Name → Type 0) → ((G : List Name → Res A) → ((s : List Name) → Post (Q s) (G s)) → (s : List Name) → Post (Q s) (st G s)) → (f : ℕ) (s : List Name) → Post (Q s) (up_to_f st f s)
  unfolding up_to_f
  by_steps Q h zero s = none_p
  by_steps Q h (suc f) s = h (up_to_f st f) (by_steps Q h f) s

  pub again_by : (Q : List Name → A → List Name → Type 0) → ((G : List Name → Res A) → ((s : List Name) → Post (Q s) (G s)) → (s : List Name) → Post (Q s) (st G s)) → (s : List Name) → Post (Q s) (again st s)
  unfolding again
  again_by Q h s = by_steps Q h (suc (length s)) s

  pub again_l : Well st → Less (again st)
  again_l W = again_by NoMore W.less

  same_steps : Well st → (f g : ℕ) (s : List Name) → length s < f → length s < g → up_to_f st f s ≡ up_to_f st g s
  unfolding up_to_f
  same_steps W zero g s h k = absurd (not-suc-le-zero h)
  same_steps W (suc f) zero s h k = absurd (not-suc-le-zero k)
  same_steps W (suc f) (suc g) s h k = W.only (up_to_f st f) (up_to_f st g) (by_steps NoMore W.less f) s (λ t l. same_steps W f g t (omega arith) (omega arith))

  pub again_is : Well st → (s : List Name) → again st s ≡ st (again st) s
  unfolding again up_to_f
  again_is W s = W.only (up_to_f st (length s)) (again st) (by_steps NoMore W.less (length s)) s (λ t l. same_steps W (length s) (suc (length t)) t l (le_refl _))
