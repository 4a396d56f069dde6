-- Images, the row of words that an image is kept as, and the board's state once an image is loaded.
-- Rests on 32-bit words (Words) and on the processor's state (Machine); what is built and what is loaded is said in these terms.
use Rattle.std.specs.Prelude.{◌≡◌, ℕ, zero, suc, ◌+◌, ◌*◌, ◌%◌, ◌≤◌, Bool, true, ◌&&◌, T, List, [], ◌∷◌, ◌++◌, length, take, drop, replicate, nat_lt}
use Rattle.std.proofs.Math.Option.{some}
use Rattle.language.specs.Syntax.{nth}
use Rattle.language.specs.Words.{all, add}
use Rattle.processor.specs.Machine.{Machine}

-- words of code and data, how many noughts follow them, the number of the word to begin at, and the numbers of the words that hold an address:
-- the loader adds the loading address to each
pub record Image : Type 0 where
  pub body : List ℕ
  pub noughts : ℕ
  pub entry : ℕ
  pub moved : List ℕ

-- the row of an image: a mark, how long the body is, how many noughts, the entry, how many words are moved; the body; the numbers of the moved words
abbrev pub row : Image → List ℕ
row i = 19525 ∷ length i.body ∷ i.noughts ∷ i.entry ∷ length i.moved ∷ (i.body ++ i.moved)

-- each of the numbers is below n
abbrev pub within : ℕ → List ℕ → Bool
within n [] = true
within n (x ∷ xs) = nat_lt x n && within n xs

-- the entry and every moved word are words of the body
pub record Sound (i : Image) : Type 0 where
  pub fine : T (nat_lt i.entry (length i.body) && within (length i.body) i.moved)

-- how many words of memory an image takes
abbrev pub size : Image → ℕ
size i = length i.body + i.noughts

-- b added to word n, modulo 2^32
abbrev pub bump : List ℕ → ℕ → ℕ → List ℕ
bump [] n b = []
bump (x ∷ xs) zero b = add x b ∷ xs
bump (x ∷ xs) (suc n) b = x ∷ bump xs n b

-- b added to each word that is named, as often as it is named
abbrev pub placed : List ℕ → List ℕ → ℕ → List ℕ
placed xs [] b = xs
placed xs (n ∷ ns) b = placed (bump xs n b) ns b

-- the memory with the image at word a: its address in bytes is what the moved words gain; all other words stay
abbrev pub loaded : Image → ℕ → List ℕ → List ℕ
loaded i a mem = take a mem ++ (placed i.body i.moved (4 * a) ++ (replicate i.noughts 0 ++ drop (a + size i) mem))

-- the board m can start: image i is loaded at word a of the memory mem, the stack's part goes from right behind the image up to word top, and
-- ins is what there is to read. Register 2 has the end of the stack's part and register 3 where it begins, modulo 2^32; the other registers
-- and the rest of the memory hold any words
pub record Ready (i : Image) (a top : ℕ) (mem : List ℕ) (ins : List ℕ) (m : Machine) : Type 0 where
  pub fits : a + size i ≤ top
  pub in_mem : top ≤ length mem
  pub small : 4 * length mem ≤ all
  pub is_mem : m.mem ≡ loaded i a mem
  pub at : m.pc ≡ 4 * (a + i.entry)
  pub regs : length m.regs ≡ 32
  pub stack : nth m.regs 2 ≡ some (4 * top % all)
  pub floor : nth m.regs 3 ≡ some (4 * (a + size i) % all)
  pub reads : m.ins ≡ ins
  pub ins_words : T (within all ins)
  pub none_yet : m.outs ≡ []
  pub words : T (within all m.regs && within all mem)
