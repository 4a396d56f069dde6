-- What the loader writes is the image loaded.
-- Rests on Rows; the proof of `place` uses it.
use Rattle.std.proofs.Common.{◌≡◌, ℕ, ◌+◌, ◌-◌, ◌*◌, ◌%◌, ◌≤◌, List, ◌++◌, length, take, drop, replicate, ◌∙◌, append_assoc, arith, drop-drop, length-drop, length-take}
use borrow.Rule.Slice.PartMut.{put_mid}
use Rattle.language.specs.Words.{all}
use Rattle.image.specs.Image.{placed, loaded}
use Rattle.image.specs.Rows.{image_of}
use Rattle.image.proofs.Rows.{placed_wrapped}

-- k words written from a on: what is before and behind stays
middle : (p x y : List ℕ) (a k : ℕ) → put_mid a k p (x ++ y) ≡ take a p ++ (x ++ (y ++ drop (a + k) p))
middle p x y a k = simp (append_assoc, drop-drop)

-- the part written into the memory, up to word end: the image loaded
pub loaded-is : (b m part mem : List ℕ) (a n e by end : ℕ) → part ≡ placed b m by ++ replicate (length (take (end - a) (drop a mem)) - length b) 0
    → by ≡ 4 * a % all → end ≡ a + length b + n → end ≤ length mem → put_mid a (end - a) mem part ≡ loaded (image_of b n e m) a mem
loaded-is b m part mem a n e by end is by-is end_is le =
    let k : length (take (end - a) (drop a mem)) - length b ≡ n = simp (length-take, length-drop) (omega arith) in
    let d : a + (end - a) ≡ a + (length b + n) = omega arith in
    let x : placed b m by ≡ placed b m (4 * a) = rw by-is (placed_wrapped b m (4 * a)) in
    rw is (middle mem (placed b m by) _ a (end - a) ∙ rw (k, d, x))
