-- The pieces of a text have no more bytes than the text. Rests on Text; the bound on words needs it.
use mathlib.Core.Path.{◌≡◌}
use mathlib.Core.Bool.{Bool, true, false}
use mathlib.Core.List.{List, [], ◌∷◌, ◌++◌}
use Prim.Native.Nat.{ℕ, ◌+◌, ◌≤◌, max}
use native.Mathlib.Omega.{arith}
use lib.ListN.{length, length-append}
use lib.Dec.{eqb}
use Rattle.language.specs.Syntax.{pick, Name}
use Rattle.grammar.specs.Text.{word_byte, blank, may_join, joins, Mode, gap, word, quoted, sign, note, Turn, from_gap, read_byte, pieces}

abbrev pub bytes : List Name → ℕ
bytes [] = 0
bytes (w ∷ ws) = length w + bytes ws

pub bytes_++ : (s t : List Name) → bytes (s ++ t) ≡ bytes s + bytes t
bytes_++ [] t = omega arith
bytes_++ (w ∷ s) t = let h = bytes_++ s t in omega arith

-- bytes that are read and not yet put out
abbrev held : Mode → ℕ
held gap = 0
held (word w) = length w
held (quoted w) = max 1 (length w)
held (sign d) = 1
held note = 0

abbrev Within : ℕ → Turn → Type 0
Within k t = bytes t.out + held t.mode ≤ k

pick-t : (k : ℕ) (b : Bool) (x y : Turn) → Within k x → Within k y → Within k (pick b x y)
pick-t k true x y p q = p
pick-t k false x y p q = q

fresh_in : (k : ℕ) (o : List Name) (c : ℕ) → bytes o + 1 ≤ k → Within k (from_gap o c)
fresh_in k o c h =
    pick-t k (blank c) _ _ (omega arith) (pick-t k (eqb c 35) _ _ (omega arith) (pick-t k (eqb c 34) _ _ (omega arith) (pick-t k (word_byte c) _ _ (omega arith)
    (pick-t k (may_join c) _ _ (omega arith) (let e = bytes_++ o ((c ∷ []) ∷ []) in omega arith)))))

reads_in : (m : Mode) (c : ℕ) → Within (held m + 1) (read_byte m c)
reads_in gap c = fresh_in _ [] c (omega arith)
reads_in (word w) c = pick-t _ (word_byte c) _ _ (let e = length-append w (c ∷ []) in omega arith) (fresh_in _ (w ∷ []) c (omega arith))
reads_in (quoted w) c = pick-t _ (eqb c 34) _ _ (omega arith) (let e = length-append w (c ∷ []) in omega arith)
reads_in (sign d) c = pick-t _ (joins d c) _ _ (omega arith) (fresh_in _ ((d ∷ []) ∷ []) c (omega arith))
reads_in note c = pick-t _ (eqb c 10) _ _ (omega arith) (omega arith)

pieces_in : (m : Mode) (s : List ℕ) → bytes (pieces m s) ≤ held m + length s
pieces_in gap [] = omega arith
pieces_in (word w) [] = omega arith
pieces_in (quoted w) [] = omega arith
pieces_in (sign d) [] = omega arith
pieces_in note [] = omega arith
pieces_in m (c ∷ cs) =
    let t = read_byte m c in
    let e = bytes_++ t.out (pieces t.mode cs) in
    let i = pieces_in t.mode cs in
    let r = reads_in m c in
    omega arith

pub pieces-bytes : (s : List ℕ) → bytes (pieces gap s) ≤ length s
pieces-bytes s = let h = pieces_in gap s in omega arith
