-- The elements of all arrays in one row, and bytes by a mask.
use mathlib.Core.Path.{◌≡◌, refl, sym, ap, ◌∙◌}
use mathlib.Core.Bool.{Bool, true, false, ◌&&◌, not}
use mathlib.Core.List.{List, [], ◌∷◌, ◌++◌}
use mathlib.Core.Option.{some}
use Prim.Native.Nat.{ℕ, zero, suc, ◌+◌, ◌*◌, ◌/◌, ◌%◌, ◌<◌}
use native.Mathlib.Omega.{arith}
use native.Mathlib.Nat.{zero-add, add_assoc}
use lib.ListN.{length, length-append}
use lib.Dec.{eqb}
use borrow.Author.Tests.{eqb-true, eqb-false}
use Rattle.language.specs.Syntax.{pick, nth, put}
use Rattle.language.specs.Words.{bit, odd, bits, and_w}
use Rattle.language.specs.Meaning.{Cells}
use Rattle.lower.specs.Lower.{lens, area, begin_of, size_of, flat, kept, part, plens, place}
use Rattle.lower.proofs.Lists.{length-put, none-some, nth_left, nth_right, put-left, put_right}

pub flat-long : (cs : List Cells) → length (flat cs) ≡ area (lens cs)
flat-long [] = refl
flat-long (c ∷ cs) = length-append c.cells (flat cs) ∙ ap (λ n. length c.cells + n) (flat-long cs)

pub size_is : (cs : List Cells) (a : ℕ) (c : Cells) → nth cs a ≡ some c → size_of (lens cs) a ≡ length c.cells
size_is [] a c e = none-some c e
size_is (d ∷ cs) zero c e = let z : d ≡ c = cc in ap (λ x. length x.cells) z
size_is (d ∷ cs) (suc a) c e = size_is cs a c e

pub begin_in : (cs : List Cells) (a i : ℕ) (c : Cells) → nth cs a ≡ some c → i < length c.cells → begin_of (lens cs) a + i < area (lens cs)
begin_in [] a i c e h = none-some c e
begin_in (d ∷ cs) zero i c e h = let z : length d.cells ≡ length c.cells = ap (λ x. length x.cells) (let y : d ≡ c = cc in y) in omega arith
begin_in (d ∷ cs) (suc a) i c e h = let z = begin_in cs a i c e h in omega arith

pub flat-at : (cs : List Cells) (a i x : ℕ) (c : Cells) → nth cs a ≡ some c → nth c.cells i ≡ some x → nth (flat cs) (begin_of (lens cs) a + i) ≡ some x
flat-at [] a i x c e h = none-some c e
flat-at (d ∷ cs) zero i x c e h = let z : d ≡ c = cc in ap (nth (d.cells ++ flat cs)) (zero-add i) ∙ nth_left d.cells (flat cs) i x (ap (λ y. nth y.cells i) z ∙ h)
flat-at (d ∷ cs) (suc a) i x c e h = ap (nth (d.cells ++ flat cs)) (add_assoc (length d.cells) (begin_of (lens cs) a) i) ∙ nth_right d.cells (flat cs) (begin_of (lens cs) a + i) ∙ flat-at cs a i x c e h

abbrev pub changed : Cells → ℕ → ℕ → Cells
changed c i x = record { wide = c.wide; cells = put c.cells i x }

pub flat-put : (cs : List Cells) (a i x : ℕ) (c : Cells) → nth cs a ≡ some c → i < length c.cells → flat (put cs a (changed c i x)) ≡ put (flat cs) (begin_of (lens cs) a + i) x
flat-put [] a i x c e h = none-some c e
flat-put (d ∷ cs) zero i x c e h =
    let z : c ≡ d = cc in
    let l : i < length d.cells = rw z at h in
    ap (λ y. put y.cells i x ++ flat cs) z ∙ sym (put-left d.cells (flat cs) i x l) ∙ ap (λ j. put (d.cells ++ flat cs) j x) (sym (zero-add i))
flat-put (d ∷ cs) (suc a) i x c e h = ap (λ r. d.cells ++ r) (flat-put cs a i x c e h) ∙ sym (put_right d.cells (flat cs) (begin_of (lens cs) a + i) x) ∙ ap (λ j. put (d.cells ++ flat cs) j x) (sym (add_assoc (length d.cells) (begin_of (lens cs) a) i))

pub lens-put : (cs : List Cells) (a i x : ℕ) (c : Cells) → nth cs a ≡ some c → lens (put cs a (changed c i x)) ≡ lens cs
lens-put [] a i x c e = refl
lens-put (d ∷ cs) zero i x c e = let z : c ≡ d = cc in ap (λ n. n ∷ lens cs) (length-put c.cells i x ∙ ap (λ y. length y.cells) z)
lens-put (d ∷ cs) (suc a) i x c e = ap (λ r. length d.cells ∷ r) (lens-put cs a i x c e)

-- a byte is what is left of a word by a mask
and_none : (n x : ℕ) → bits (λ a b. a && b) n x 0 ≡ 0
and_none zero x = refl
and_none (suc n) x = go (odd x) (and_none n (x / 2))
  where
    go : (b : Bool) → bits (λ a b. a && b) n (x / 2) 0 ≡ 0 → bit (b && false) + 2 * bits (λ a b. a && b) n (x / 2) 0 ≡ 0
    go true h = ap (λ z. 0 + 2 * z) h
    go false h = ap (λ z. 0 + 2 * z) h

odd_is : (x : ℕ) → bit (odd x && true) ≡ x % 2
odd_is x = go (eqb (x % 2) 1) refl
  where
    go : (b : Bool) → eqb (x % 2) 1 ≡ b → bit (b && true) ≡ x % 2
    go true e = sym (eqb-true (x % 2) 1 e)
    go false e = let z : x % 2 ≡ 1 → ⊥ = eqb-false (x % 2) 1 e in omega arith

abbrev low_bits : ℕ → ℕ → ℕ → ℕ
low_bits n x y = bits (λ a b. a && b) n x y

one_more : (u w x : ℕ) → u ≡ w → bit (odd x && true) + 2 * u ≡ x % 2 + 2 * w
one_more u w x e = ap (λ z. z + 2 * u) (odd_is x) ∙ ap (λ z. x % 2 + 2 * z) e

m1 : (x : ℕ) → low_bits 25 x 1 ≡ x % 2
m1 x = one_more _ _ x (and_none 24 (x / 2)) ∙ omega arith

m2 : (x : ℕ) → low_bits 26 x 3 ≡ x % 4
m2 x = one_more _ _ x (m1 (x / 2)) ∙ omega arith

m3 : (x : ℕ) → low_bits 27 x 7 ≡ x % 8
m3 x = one_more _ _ x (m2 (x / 2)) ∙ omega arith

m4 : (x : ℕ) → low_bits 28 x 15 ≡ x % 16
m4 x = one_more _ _ x (m3 (x / 2)) ∙ omega arith

m5 : (x : ℕ) → low_bits 29 x 31 ≡ x % 32
m5 x = one_more _ _ x (m4 (x / 2)) ∙ omega arith

m6 : (x : ℕ) → low_bits 30 x 63 ≡ x % 64
m6 x = one_more _ _ x (m5 (x / 2)) ∙ omega arith

m7 : (x : ℕ) → low_bits 31 x 127 ≡ x % 128
m7 x = one_more _ _ x (m6 (x / 2)) ∙ omega arith

pub byte_is : (x : ℕ) → and_w x 255 ≡ x % 256
byte_is x = one_more _ _ x (m7 (x / 2)) ∙ omega arith

-- arrays in two parts
part_at : (fl : ℕ → Bool) (cs : List Cells) (a : ℕ) (c : Cells) → nth cs a ≡ some c → nth (part fl cs) a ≡ some (kept (fl a) c)
part_at fl [] a c e = none-some c e
part_at fl (d ∷ cs) zero c e = let z : d ≡ c = cc in ap (λ y. some (kept (fl 0) y)) z
part_at fl (d ∷ cs) (suc a) c e = part_at (λ i. fl (suc i)) cs a c e

part-on : (fl : ℕ → Bool) (cs : List Cells) (a : ℕ) (c : Cells) → fl a ≡ true → nth cs a ≡ some c → nth (part fl cs) a ≡ some c
part-on fl cs a c t e = part_at fl cs a c e ∙ ap (λ b. some (kept b c)) t

kept-long : (b : Bool) (c : Cells) → length (kept b c).cells ≡ pick b (length c.cells) 0
kept-long true c = refl
kept-long false c = refl

pub lens-part : (fl : ℕ → Bool) (cs : List Cells) → lens (part fl cs) ≡ plens fl (lens cs)
lens-part fl [] = refl
lens-part fl (c ∷ cs) = ap (λ n. n ∷ lens (part (λ i. fl (suc i)) cs)) (kept-long (fl 0) c) ∙ ap (λ r. pick (fl 0) (length c.cells) 0 ∷ r) (lens-part (λ i. fl (suc i)) cs)

put_on : (fl : ℕ → Bool) (cs : List Cells) (a i x : ℕ) (c : Cells) → fl a ≡ true → nth cs a ≡ some c → part fl (put cs a (changed c i x)) ≡ put (part fl cs) a (changed c i x)
put_on fl [] a i x c t e = none-some c e
put_on fl (d ∷ cs) zero i x c t e = ap (λ b. kept b (changed c i x) ∷ part (λ j. fl (suc j)) cs) t
put_on fl (d ∷ cs) (suc a) i x c t e = ap (λ r. kept (fl 0) d ∷ r) (put_on (λ j. fl (suc j)) cs a i x c t e)

put-off : (fl : ℕ → Bool) (cs : List Cells) (a i x : ℕ) (c : Cells) → fl a ≡ false → nth cs a ≡ some c → part fl (put cs a (changed c i x)) ≡ part fl cs
put-off fl [] a i x c t e = none-some c e
put-off fl (d ∷ cs) zero i x c t e = let z : c ≡ d = cc in ap (λ b. kept b (changed c i x) ∷ part (λ j. fl (suc j)) cs) t ∙ (ap (λ y. kept false y ∷ part (λ j. fl (suc j)) cs) z ∙ ap (λ b. kept b d ∷ part (λ j. fl (suc j)) cs) (sym t))
put-off fl (d ∷ cs) (suc a) i x c t e = ap (λ r. kept (fl 0) d ∷ r) (put-off (λ j. fl (suc j)) cs a i x c t e)

-- the row of all data: what has values, the words, what has none
abbrev pub row_by : (ℕ → Bool) → List ℕ → List Cells → List ℕ
row_by fl ws cs = flat (part fl cs) ++ (ws ++ flat (part (λ i. not (fl i)) cs))

pub part-long : (fl : ℕ → Bool) (cs : List Cells) → length (flat (part fl cs)) ≡ area (plens fl (lens cs))
part-long fl cs = flat-long (part fl cs) ∙ ap area (lens-part fl cs)

pub row-long : (fl : ℕ → Bool) (ws : List ℕ) (cs : List Cells) → length (row_by fl ws cs) ≡ area (plens fl (lens cs)) + (length ws + area (plens (λ i. not (fl i)) (lens cs)))
row-long fl ws cs = omega (arith, length-append (flat (part fl cs)) (ws ++ flat (part (λ i. not (fl i)) cs)), length-append ws (flat (part (λ i. not (fl i)) cs)), part-long fl cs, part-long (λ i. not (fl i)) cs)

pub row_word : (fl : ℕ → Bool) (ws : List ℕ) (cs : List Cells) (j x : ℕ) → nth ws j ≡ some x → nth (row_by fl ws cs) (area (plens fl (lens cs)) + j) ≡ some x
row_word fl ws cs j x p = ap (λ k. nth (row_by fl ws cs) (k + j)) (sym (part-long fl cs)) ∙ nth_right (flat (part fl cs)) (ws ++ flat (part (λ i. not (fl i)) cs)) j ∙ nth_left ws (flat (part (λ i. not (fl i)) cs)) j x p

pub row-set : (fl : ℕ → Bool) (ws : List ℕ) (cs : List Cells) (j x : ℕ) → j < length ws → put (row_by fl ws cs) (area (plens fl (lens cs)) + j) x ≡ row_by fl (put ws j x) cs
row-set fl ws cs j x l = ap (λ k. put (row_by fl ws cs) (k + j) x) (sym (part-long fl cs)) ∙ put_right (flat (part fl cs)) (ws ++ flat (part (λ i. not (fl i)) cs)) j x ∙ ap (λ r. flat (part fl cs) ++ r) (put-left ws (flat (part (λ i. not (fl i)) cs)) j x l)

module _ (fl : ℕ → Bool) (ws : List ℕ) (cs : List Cells) (a i : ℕ) (c : Cells) (e : nth cs a ≡ some c) where
  abbrev dead : ℕ → Bool
  dead j = not (fl j)

  abbrev at : ℕ
  at = place fl (length ws) (lens cs) a + i

  live_at : fl a ≡ true → at ≡ begin_of (lens (part fl cs)) a + i
  live_at t = ap (λ b. pick b (begin_of (plens fl (lens cs)) a) (area (plens fl (lens cs)) + (length ws + begin_of (plens dead (lens cs)) a)) + i) t ∙ ap (λ l. begin_of l a + i) (sym (lens-part fl cs))

  dead_at : fl a ≡ false → at ≡ length (flat (part fl cs)) + (length ws + (begin_of (lens (part dead cs)) a + i))
  dead_at t = ap (λ b. pick b (begin_of (plens fl (lens cs)) a) (area (plens fl (lens cs)) + (length ws + begin_of (plens dead (lens cs)) a)) + i) t ∙ omega (arith, part-long fl cs, ap (λ l. begin_of l a) (lens-part dead cs))

  pub row_at : (x : ℕ) → nth c.cells i ≡ some x → nth (row_by fl ws cs) at ≡ some x
  row_at x p = go (fl a) refl
    where
      go : (b : Bool) → fl a ≡ b → nth (row_by fl ws cs) at ≡ some x
      go true t = ap (nth (row_by fl ws cs)) (live_at t) ∙ nth_left (flat (part fl cs)) _ _ x (flat-at (part fl cs) a i x c (part-on fl cs a c t e) p)
      go false t = ap (nth (row_by fl ws cs)) (dead_at t) ∙ nth_right (flat (part fl cs)) _ _ ∙ nth_right ws _ _ ∙ flat-at (part dead cs) a i x c (part-on dead cs a c (ap not t) e) p

  pub row_in : i < length c.cells → at < area (plens fl (lens cs)) + (length ws + area (plens dead (lens cs)))
  row_in l = go (fl a) refl
    where
      go : (b : Bool) → fl a ≡ b → at < area (plens fl (lens cs)) + (length ws + area (plens dead (lens cs)))
      go true t = omega (arith, live_at t, begin_in (part fl cs) a i c (part-on fl cs a c t e) l, ap area (lens-part fl cs))
      go false t = omega (arith, dead_at t, part-long fl cs, begin_in (part dead cs) a i c (part-on dead cs a c (ap not t) e) l, ap area (lens-part dead cs))

  pub row_put : (x : ℕ) → i < length c.cells → put (row_by fl ws cs) at x ≡ row_by fl ws (put cs a (changed c i x))
  row_put x l = go (fl a) refl
    where
      go : (b : Bool) → fl a ≡ b → put (row_by fl ws cs) at x ≡ row_by fl ws (put cs a (changed c i x))
      go true t =
          let q : nth (part fl cs) a ≡ some c = part-on fl cs a c t e in
          let m : begin_of (lens (part fl cs)) a + i < length (flat (part fl cs)) = omega (arith, begin_in (part fl cs) a i c q l, flat-long (part fl cs)) in
          ap (λ j. put (row_by fl ws cs) j x) (live_at t) ∙ put-left (flat (part fl cs)) _ _ x m ∙ ap (λ r. r ++ (ws ++ flat (part dead cs))) (sym (flat-put (part fl cs) a i x c q l) ∙ ap flat (sym (put_on fl cs a i x c t e))) ∙ ap (λ r. flat (part fl (put cs a (changed c i x))) ++ (ws ++ flat r)) (sym (put-off dead cs a i x c (ap not t) e))
      go false t =
          let q : nth (part dead cs) a ≡ some c = part-on dead cs a c (ap not t) e in
          ap (λ j. put (row_by fl ws cs) j x) (dead_at t) ∙ put_right (flat (part fl cs)) _ _ x ∙ ap (λ r. flat (part fl cs) ++ r) (put_right ws (flat (part dead cs)) _ x ∙ ap (λ r. ws ++ r) (sym (flat-put (part dead cs) a i x c q l) ∙ ap flat (sym (put_on dead cs a i x c (ap not t) e)))) ∙ ap (λ r. flat r ++ (ws ++ flat (part dead (put cs a (changed c i x))))) (sym (put-off fl cs a i x c t e))
