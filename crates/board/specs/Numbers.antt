-- Decimal numbers below 2^32 in text: one alone, or many with blanks between them.
use Rattle.std.specs.Prelude.{ℕ, ◌+◌, ◌-◌, ◌*◌, Bool, true, ◌&&◌, ◌||◌, List, [], ◌∷◌, Some, None, Option, ◌==◌, nat_le, nat_lt}
use Rattle.language.specs.Syntax.{pick}

abbrev pub digit : ℕ → Bool
digit b = nat_le 48 b && nat_le b 57

abbrev pub digits : List ℕ → Bool
digits [] = true
digits (b ∷ bs) = digit b && digits bs

-- the number that digits behind a number make
abbrev pub value : ℕ → List ℕ → ℕ
value n [] = n
value n (b ∷ bs) = value (n * 10 + (b - 48)) bs

-- one digit or more, and a value that is a word
abbrev pub number : List ℕ → Option ℕ
number [] = None
number (b ∷ bs) = pick (digits (b ∷ bs) && nat_lt (value 0 (b ∷ bs)) 4294967296) (Some (value 0 (b ∷ bs))) None

-- a blank, a tab, the end of a line
abbrev pub blank : ℕ → Bool
blank b = b == 32 || (b == 9 || (b == 10 || b == 13))

-- one more byte behind a number: a digit, and still a word
abbrev pub more : ℕ → ℕ → Option ℕ
more n b = pick (digit b && nat_lt (n * 10 + (b - 48)) 4294967296) (Some (n * 10 + (b - 48))) None

-- the number that is being read, if any
abbrev pub so_far : Option ℕ → ℕ
so_far None = 0
so_far (Some n) = n

-- a number that was read, before those behind it
abbrev pub before : Option ℕ → Option (List ℕ) → Option (List ℕ)
before p None = None
before None (Some ns) = Some ns
before (Some n) (Some ns) = Some (n ∷ ns)

abbrev pub and_then : {A : Type 0} → Option ℕ → (ℕ → Option A) → Option A
and_then None f = None
and_then (Some n) f = f n

-- the numbers of a text, the first of which may have begun before it; or that there is something else, or a number that is no word
abbrev pub numbers : Option ℕ → List ℕ → Option (List ℕ)
numbers p [] = before p (Some [])
numbers p (b ∷ bs) = pick (blank b) (before p (numbers None bs)) (and_then (more (so_far p) b) (λ n. numbers (Some n) bs))
