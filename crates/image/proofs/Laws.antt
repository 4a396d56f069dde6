-- The laws of the loader's promise: a row has one image, a call one answer, and a placed image on a board that is set up is ready.
-- Rests on Rows; the contracts of `one_answer` and `start` cite the statements in specs/Place.
use Rattle.std.proofs.Common.{◌≡◌, ℕ, ◌+◌, ◌*◌, ◌%◌, ◌<◌, ◌≤◌, ◌⊎◌, List, ◌++◌, length, take, drop, sym, refl, ap, ◌∙◌, subst, inl, inr, mod-eq_of_lt, arith, ltb→lt, Ok, Err}
use mathlib.Core.Option.{some}
use lib.Seq.{take-append_seam, drop-append_seam}
use Rattle.language.specs.Words.{all}
use Rattle.image.specs.declared.Placed.{Placed}
use Rattle.image.specs.declared.Refusal.TheVariants.{NoImage, TooLarge}
use Rattle.image.specs.Image.{Image, Sound, size, loaded, Ready}
use Rattle.image.specs.Place.{PlacedSays, OneImage, OneAnswer, PlacedReady}
use Rattle.image.specs.Rows.{image_of}
use Rattle.image.proofs.Rows.{both, both_left}

-- two lists joined at the same place have the same parts
same_parts : (b c m n : List ℕ) → length b ≡ length c → b ++ m ≡ c ++ n → (b ≡ c) × (m ≡ n)
same_parts b c m n l e = (
  sym (take-append_seam b m) ∙ (ap (take (length b)) e ∙ (ap (λ k. take k (c ++ n)) l ∙ take-append_seam c n)),
  sym (drop-append_seam b m) ∙ (ap (drop (length b)) e ∙ (ap (λ k. drop k (c ++ n)) l ∙ drop-append_seam c n)),
)

same-image : (b c m n : List ℕ) (x y e f : ℕ) → b ≡ c → x ≡ y → e ≡ f → m ≡ n → image_of b x e m ≡ image_of c y f n
same-image b c m n x y e f p q r s = rw (p, q, r, s)

pub one-image : OneImage
one-image i j e =
    let l : length i.body ≡ length j.body = cc in
    let joined : i.body ++ i.moved ≡ j.body ++ j.moved = cc in
    let parts = same_parts i.body j.body i.moved j.moved l joined in
    same-image i.body j.body i.moved j.moved i.noughts j.noughts i.entry j.entry parts.0 (cc) (cc) parts.1

-- what fits does not pass an end
fits_not_large : (a top w i j : ℕ) → i ≡ j → a + i ≤ top → top ≤ w → ((top < a + j) ⊎ (w < top)) → ⊥
fits_not_large a top w i j e le in_mem (inl large) = omega arith
fits_not_large a top w i j e le in_mem (inr large) = omega arith

-- an image that was loaded was not too large
not_both : (s : List ℕ) (a top : ℕ) (mem m n : List ℕ) (p : Placed) → PlacedSays s a top mem m (Ok p) → PlacedSays s a top mem n (Err TooLarge) → ⊥
not_both s a top mem m n p x y = fits_not_large a top (length mem) _ _ (ap size (one-image x.0 y.0 (x.1 ∙ sym y.1))) x.3 x.4 y.3

pub one_answer : OneAnswer
one_answer s a top mem m n (Ok p) (Ok q) x y =
    let same = one-image x.0 y.0 (x.1 ∙ sym y.1) in
    let entry : p.entry ≡ q.entry = x.6 ∙ (ap (λ (i : Image). 4 * (a + i.entry)) same ∙ sym y.6) in
    let floor : p.floor ≡ q.floor = x.7 ∙ (ap (λ (i : Image). 4 * (a + size i)) same ∙ sym y.7) in
    (ap Ok (λ i. record { entry = entry i; floor = floor i }), x.5 ∙ (ap (λ (i : Image). loaded i a mem) same ∙ sym y.5))
one_answer s a top mem m n (Ok p) (Err NoImage) x y = absurd (y.0 x.0 x.1 x.2)
one_answer s a top mem m n (Ok p) (Err TooLarge) x y = absurd (not_both s a top mem m n p x y)
one_answer s a top mem m n (Err NoImage) (Ok q) x y = absurd (x.0 y.0 y.1 y.2)
one_answer s a top mem m n (Err NoImage) (Err NoImage) x y = (refl, x.1 ∙ sym y.1)
one_answer s a top mem m n (Err NoImage) (Err TooLarge) x y = absurd (x.0 y.0 y.1 y.2)
one_answer s a top mem m n (Err TooLarge) (Ok q) x y = absurd (not_both s a top mem n m q y x)
one_answer s a top mem m n (Err TooLarge) (Err NoImage) x y = absurd (y.0 x.0 x.1 x.2)
one_answer s a top mem m n (Err TooLarge) (Err TooLarge) x y = (refl, x.4 ∙ sym y.4)

-- the entry's address is a word, since the memory ends at 2^32 bytes or before
entry-word : (i : Image) (a top w e : ℕ) → Sound i → a + size i ≤ top → top ≤ w → 4 * w ≤ all → e ≡ 4 * (a + i.entry) → e < all
entry-word i a top w e s fits in_mem small is = omega (arith, ltb→lt i.entry (length i.body) (both_left _ _ s.fine))

pub placed-ready : PlacedReady
placed-ready s a top mem mem' ins q r m p t u small words i is =
    let low : q.entry < all = entry-word p.0 a top (length mem) q.entry p.2 p.3 p.4 small p.6 in
    let ready : Ready p.0 a top mem ins m = record {
      fits = p.3;
      in_mem = p.4;
      small = small;
      is_mem = u.is_mem ∙ p.5;
      at = u.at ∙ (t.pc_is ∙ (mod-eq_of_lt low ∙ p.6));
      regs = u.regs;
      stack = u.stack ∙ ap some t.stack_is;
      floor = u.floor ∙ ap some (t.floor_is ∙ ap (λ (n : ℕ). n % all) p.7);
      reads = u.reads;
      ins_words = u.ins_words;
      none_yet = u.none_yet;
      words = both _ _ u.words words;
    } in
    subst (λ (j : Image). Ready j a top mem ins m) (one-image p.0 i (p.1 ∙ sym is)) ready
