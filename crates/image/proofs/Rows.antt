-- Tests on each number of a list, and words moved one by one.
-- Rests on specs/Image; the loops of the loader and the lemmas on loading use it.
use Rattle.std.proofs.Common.{◌≡◌, ℕ, zero, suc, ◌+◌, ◌%◌, ◌<◌, Bool, true, false, ◌&&◌, T, ltb, List, [], ◌∷◌, length, get_or, drop, set, refl, ap, ◌∙◌, ltb→lt}
use native.Mathlib.Nat.{add-mod-mod}
use Rattle.std.proofs.lemmas.List.{drop_more}
use Rattle.language.specs.Words.{all, add}
use Rattle.image.specs.Image.{within, bump, placed}

-- both of two tests
pub both_left : (a b : Bool) → T (a && b) → T a
both_left true b t = tt
both_left false b t = t

pub both_right : (a b : Bool) → T (a && b) → T b
both_right true b t = t
both_right false b t = absurd t

pub both : (a b : Bool) → T a → T b → T (a && b)
both true b s t = t
both false b s t = s

-- one word moved is one written
pub bump-set : (xs : List ℕ) (n b : ℕ) → bump xs n b ≡ set xs n (add (get_or xs n 0) b)
bump-set [] n b = refl
bump-set (x ∷ xs) zero b = refl
bump-set (x ∷ xs) (suc n) b = ap (λ ys. x ∷ ys) (bump-set xs n b)

-- what is added counts modulo 2^32
pub bump_wrapped : (xs : List ℕ) (n b : ℕ) → bump xs n (b % all) ≡ bump xs n b
bump_wrapped [] n b = refl
bump_wrapped (x ∷ xs) zero b = ap (λ y. y ∷ xs) (add-mod-mod x b all)
bump_wrapped (x ∷ xs) (suc n) b = ap (λ ys. x ∷ ys) (bump_wrapped xs n b)

pub placed_wrapped : (xs ns : List ℕ) (b : ℕ) → placed xs ns (b % all) ≡ placed xs ns b
placed_wrapped xs [] b = refl
placed_wrapped xs (n ∷ ns) b = ap (λ ys. placed ys ns (b % all)) (bump_wrapped xs n b) ∙ placed_wrapped (bump xs n b) ns b

-- the number at i, and those behind it
pub within-here : (n : ℕ) (xs : List ℕ) (i : ℕ) → i < length xs → T (within n (drop i xs)) → get_or xs i 0 < n
within-here n xs i h t = ltb→lt (get_or xs i 0) n (both_left _ _ (rw (drop_more xs i 0 h) at t))

pub within-rest : (n : ℕ) (xs : List ℕ) (i : ℕ) → i < length xs → T (within n (drop i xs)) → T (within n (drop (i + 1) xs))
within-rest n xs i h t = both_right (ltb (get_or xs i 0) n) _ (rw (drop_more xs i 0 h) at t)

-- the word named at i moved, and those named behind it
pub placed-more : (xs ns : List ℕ) (b i : ℕ) → i < length ns → placed xs (drop i ns) b ≡ placed (set xs (get_or ns i 0) (add (get_or xs (get_or ns i 0) 0) b)) (drop (i + 1) ns) b
placed-more xs ns b i h = ap (λ t. placed xs t b) (drop_more ns i 0 h) ∙ ap (λ ys. placed ys (drop (i + 1) ns) b) (bump-set xs (get_or ns i 0) b)
