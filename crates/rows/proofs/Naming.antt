-- Names compared as the library compares slices.
use Rattle.std.proofs.Common.{◌≡◌, Bool, ◌&&◌, eqb, [], ◌∷◌, refl, ap}
use lib.Pointwise.{pointwise}
use Rattle.language.specs.Syntax.{Name, same}

pub same_pointwise : (x y : Name) → pointwise eqb x y ≡ same x y
same_pointwise [] [] = refl
same_pointwise [] (b ∷ y) = refl
same_pointwise (a ∷ x) [] = refl
same_pointwise (a ∷ x) (b ∷ y) = ap (λ (t : Bool). eqb a b && t) (same_pointwise x y)
