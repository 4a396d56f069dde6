-- A build that gives what specs/Build says keeps the promise of the call: the layers in a row.
use mathlib.Core.Path.{◌≡◌, refl, sym, ap, subst}
use mathlib.Core.Bool.{Bool, true, false, not}
use mathlib.Core.List.{List, [], ◌∷◌, ◌++◌}
use mathlib.Core.Option.{Option, some, none}
use Rattle.std.specs.Prelude.{Result, Ok, Err}
use Prim.Native.Nat.{ℕ, ◌+◌, ◌*◌, ◌≤◌}
use native.Mathlib.Omega.{arith}
use lib.ListN.{length, take, drop}
use lib.Dec.{T, ltb, leb, leb→le, ltb→lt, lt→ltb, nleb→lt}
use Rattle.language.specs.Syntax.{pick, Prog, stage}
use Rattle.language.specs.Meaning.{all_words}
use Rattle.language.specs.Checks.{totals}
use Rattle.grammar.specs.Text.{Reads}
use Rattle.grammar.specs.Reading.{reading}
use Rattle.grammar.proofs.Reading.{reading-sound, reading-none}
use Rattle.grammar.proofs.TextLaws.{one-program, never-wrong, further}
use Rattle.image.specs.Image.{Image, Sound, row}
use Rattle.lower.specs.declared.Unbuilt.{Unbuilt}
use Rattle.lower.specs.declared.Unbuilt.TheVariants.{ImageFull, NotYet, NoProgram, Few}
use Rattle.lower.specs.Lower.{compile}
use Rattle.lower.specs.Promise.{landed, RunsRight, BuiltSays, BuiltPost, Parts}
use Rattle.lower.specs.Build.{Outcome, refused, written, of_text, BuildsRight}
use Rattle.lower.proofs.Correct.{compiled_right, compiled_sound, compiled_fits}

pub parts : Parts
parts = record { one_program = one-program; never_wrong = never-wrong; further = further }

take_row : (r s : List ℕ) → take (length r) (r ++ s) ≡ r
take_row [] s = refl
take_row (x ∷ r) s = ap {B = List ℕ} (λ l. x ∷ l) (take_row r s)

drop-row : (r s : List ℕ) → drop (length r) (r ++ s) ≡ s
drop-row [] s = refl
drop-row (x ∷ r) s = drop-row r s

abbrev IsFew : Result ℕ Unbuilt → Type 0
IsFew (Ok n) = ⊥
IsFew (Err ImageFull) = ⊥
IsFew (Err (NotYet n)) = ⊥
IsFew (Err NoProgram) = ⊥
IsFew (Err Few) = Unit {0}

module _ (t : List ℕ) (w : ℕ) (o : List ℕ) where
  abbrev Said : Outcome → Type 0
  Said x = BuiltSays t o x.image x.answer × (IsFew x.answer → ⊥)

  -- the image stands for any: as itself it would be computed at each step
  of_image : (p : Prog) (i : Image) → Reads t p → stage p ≤ landed → Sound i → RunsRight p i → (length (row i) ≤ 4096 + 8 * length t) × (i.noughts ≤ 4096 + (all_words p + totals p)) → Said (written (row i) o)
  of_image p i r z s x f = go (ltb (length o) (length (row i))) refl
    where
      go : (b : Bool) → ltb (length o) (length (row i)) ≡ b → Said (pick b (refused ImageFull o) (record { answer = Ok (length (row i)); image = row i ++ drop (length (row i)) o }))
      go true e = ((p, r, z, omega (arith, ltb→lt (length o) (length (row i)) (subst T (sym e) tt), f.0), refl), λ h. h)
      go false e = ((p, i, r, z, s, x, f.0, f.1, refl, take_row (row i) (drop (length (row i)) o), drop-row (row i) (drop (length (row i)) o)), λ h. h)

  of_read : (m : Option Prog) → reading t ≡ m → Said (of_text o m)
  of_read none e = ((reading-none t e, refl), λ h. h)
  of_read (some p) e = go (leb (stage p) landed) refl
    where
      r : Reads t p
      r = reading-sound t p e

      go : (b : Bool) → leb (stage p) landed ≡ b → Said (pick b (written (row (compile p)) o) (refused (NotYet (stage p)) o))
      go true h = let z : stage p ≤ landed = leb→le (stage p) landed (subst T (sym h) tt) in of_image p (compile p) r z (compiled_sound p) (compiled_right t p r z) (compiled_fits t p r)
      go false h = ((p, r, refl, nleb→lt (stage p) landed (subst (λ b. T (not b)) (sym h) tt), refl), λ h. h)

  all_built : (b : Bool) → ltb w (65536 + 16 * length t) ≡ b → BuiltPost t w o (pick b (refused Few o) (of_text o (reading t))).image (pick b (refused Few o) (of_text o (reading t))).answer
  all_built true h = record { says = refl; parts = parts; few = ((λ l. refl), (λ e. ltb→lt w (65536 + 16 * length t) (subst T (sym h) tt))) }
  all_built false h =
      let s : Said (of_text o (reading t)) = of_read (reading t) refl in
      record { says = s.0; parts = parts; few = ((λ l. absurd (subst T h (lt→ltb w (65536 + 16 * length t) l))), (λ e. absurd (s.1 (subst IsFew (sym e) tt)))) }

pub builds_right : BuildsRight
builds_right t w o = all_built t w o (ltb w (65536 + 16 * length t)) refl
