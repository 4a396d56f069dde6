-- An image's row, taken apart: what reading a row answers.
-- Rests on Image; the contracts of the module `row` cite it.
use Rattle.std.specs.Prelude.{◌≡◌, ℕ, ◌<◌, List}
use Rattle.language.specs.Words.{all}
use Rattle.image.specs.Image.{Image, row, Sound}

abbrev pub image_of : List ℕ → ℕ → ℕ → List ℕ → Image
image_of b n e m = record { body = b; noughts = n; entry = e; moved = m }

-- no sound image has this row
abbrev pub NoSound : List ℕ → Type 0
NoSound s = (i : Image) → row i ≡ s → Sound i → ⊥

-- the sound image that has this row, by its parts; noughts and entry are words
pub record SoundRow (s b : List ℕ) (n e : ℕ) (m : List ℕ) : Type 0 where
  pub is_row : row (image_of b n e m) ≡ s
  pub sound : Sound (image_of b n e m)
  pub few_noughts : n < all
  pub early : e < all
