-- A word's four bytes are those that it was made of, and words one after the other have their bytes one after the other.
use Rattle.std.proofs.Common.{◌≡◌, ℕ, zero, suc, ◌+◌, ◌*◌, ◌/◌, ◌%◌, ◌<◌, List, [], ◌∷◌, ◌++◌, length, get_or, map, sym, ap, ◌∙◌, ap₂, arith}
use Rattle.std.specs.Int.{from_le_bytes, w32}
use Rattle.std.specs.Simd.{first_chunks}
use Rattle.std.proofs.lemmas.List.{nil_from_length}
use Rattle.board.specs.Bytes.{bytes}

low : (a r : ℕ) → a < 256 → (a + 256 * r) % 256 ≡ a
low a r h = omega arith

four : (w a b c d : ℕ) → a < 256 → b < 256 → c < 256 → d < 256 → w ≡ a + 256 * b + 65536 * c + 16777216 * d → bytes (w ∷ []) ≡ a ∷ b ∷ c ∷ d ∷ []
four w a b c d ha hb hc hd e =
    let q0 : w ≡ a + 256 * (b + 256 * (c + 256 * d)) = omega arith in
    let q1 : w / 256 ≡ b + 256 * (c + 256 * d) = omega arith in
    let q2 : w / 65536 ≡ c + 256 * d = omega arith in
    let q3 : w / 16777216 ≡ d = omega arith in
    let e0 = ap (λ (x : ℕ). x % 256) q0 ∙ low a (b + 256 * (c + 256 * d)) ha in
    let e1 = ap (λ (x : ℕ). x % 256) q1 ∙ low b (c + 256 * d) hb in
    let e2 = ap (λ (x : ℕ). x % 256) q2 ∙ low c d hc in
    λ i. e0 i ∷ e1 i ∷ e2 i ∷ q3 i ∷ []

-- the words of four bytes each have all the bytes
pub bytes-words : (n : ℕ) (xs : List ℕ) → ((i : ℕ) → get_or xs i 0 < 256) → length xs ≡ n * 4 → bytes (map (from_le_bytes w32) (first_chunks 4 n xs)) ≡ xs
bytes-words zero xs small e = sym (nil_from_length xs e)
bytes-words (suc n) [] small e = absurd (omega arith)
bytes-words (suc n) (a ∷ []) small e = absurd (omega arith)
bytes-words (suc n) (a ∷ b ∷ []) small e = absurd (omega arith)
bytes-words (suc n) (a ∷ b ∷ c ∷ []) small e = absurd (omega arith)
bytes-words (suc n) (a ∷ b ∷ c ∷ d ∷ xs) small e =
    let w = from_le_bytes w32 (a ∷ b ∷ c ∷ d ∷ []) in
    let first : bytes (w ∷ []) ≡ a ∷ b ∷ c ∷ d ∷ [] = four w a b c d (small 0) (small 1) (small 2) (small 3) (omega arith) in
    ap₂ (λ (ys zs : List ℕ). ys ++ zs) first (bytes-words n xs (λ i. small (suc (suc (suc (suc i))))) (omega arith))
