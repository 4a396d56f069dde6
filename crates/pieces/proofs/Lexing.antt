-- How `pieces` goes on over one byte more.
use Rattle.std.proofs.Common.{◌≡◌, ℕ, ◌+◌, ◌-◌, ◌<◌, ◌≤◌, Bool, true, false, not, ◌&&◌, cond, eqb, ltb, ◌⊎◌, List, Option, Some, None, MatchOption, [], ◌∷◌, ◌++◌, length, get_or, take, drop, sym, refl, ap, ◌∙◌, subst, ap₂, append_assoc, one-add, arith, length-drop, length-take-le, drop-drop, Bor, ne_eqb, inl, inr, zero, suc, add-one}
use Rattle.std.proofs.lemmas.List.{take_more, at_drop_more, at_drop_all}
use Rattle.std.specs.List.{prefix_len, position_or_len}
use Rattle.std.proofs.lemmas.List.Sums.{prefix_len-le-length, prefix_len_passes, prefix_len_stops, prefix_len-drop_yes, fails_before_first, passes_at_first}
use Rattle.std.proofs.lemmas.Bool.{cases_lt, lt-ltb, le-ltb}
use Rattle.pieces.specs.declared.piece.Piece.{Piece}
use Rattle.pieces.specs.declared.piece.Piece.TheVariants.{Text, Sign, Pair}
use borrow.Author.Tests.{both_ways}
use Rattle.pieces.specs.Cutting.{Starts, before, some, Placed, Sane, Bare, Body, Cut}
use Rattle.language.specs.Syntax.{pick, Name}
use Rattle.grammar.specs.Text.{pieces, Mode, gap, word, quoted, sign, note, Turn, turn, from_gap, word_byte, word_bytes, blank, may_join, joins}

-- what comes after one turn
abbrev pub after : Turn → List ℕ → List Name
after t s = t.out ++ pieces t.mode s

-- what is put out first changes nothing else
fresh5 : (b1 b2 b3 b4 b5 : Bool) (o : List Name) (c : ℕ) (s : List ℕ) → after (pick b1 (turn o gap) (pick b2 (turn o note) (pick b3 (turn o (quoted (34 ∷ []))) (pick b4 (turn o (word (c ∷ []))) (pick b5 (turn o (sign c)) (turn (o ++ ((c ∷ []) ∷ [])) gap)))))) s ≡ o ++ after (pick b1 (turn [] gap) (pick b2 (turn [] note) (pick b3 (turn [] (quoted (34 ∷ []))) (pick b4 (turn [] (word (c ∷ []))) (pick b5 (turn [] (sign c)) (turn ((c ∷ []) ∷ []) gap)))))) s
fresh5 true b2 b3 b4 b5 o c s = refl
fresh5 false true b3 b4 b5 o c s = refl
fresh5 false false true b4 b5 o c s = refl
fresh5 false false false true b5 o c s = refl
fresh5 false false false false true o c s = refl
fresh5 false false false false false o c s = append_assoc o ((c ∷ []) ∷ []) (pieces gap s)

pub fresh-out : (o : List Name) (c : ℕ) (s : List ℕ) → after (from_gap o c) s ≡ o ++ pieces gap (c ∷ s)
fresh-out o c s = fresh5 (blank c) (eqb c 35) (eqb c 34) (word_byte c) (may_join c) o c s

-- a word goes on, and ends
pub word_on : (w : Name) (c : ℕ) (s : List ℕ) → word_byte c ≡ true → pieces (word w) (c ∷ s) ≡ pieces (word (w ++ (c ∷ []))) s
word_on w c s e = ap (λ (b : Bool). after (pick b (turn [] (word (w ++ (c ∷ [])))) (from_gap (w ∷ []) c)) s) e

pub word-off : (w : Name) (c : ℕ) (s : List ℕ) → word_byte c ≡ false → pieces (word w) (c ∷ s) ≡ w ∷ pieces gap (c ∷ s)
word-off w c s e = ap (λ (b : Bool). after (pick b (turn [] (word (w ++ (c ∷ [])))) (from_gap (w ∷ []) c)) s) e ∙ fresh-out (w ∷ []) c s

pub word_more : (s : List ℕ) (n : ℕ) → n < length s → word_byte (get_or s n 0) ≡ true → pieces (word (take n s)) (drop n s) ≡ pieces (word (take (n + 1) s)) (drop (n + 1) s)
word_more s n h e = at_drop_more (pieces (word (take n s))) s n 0 h ∙ word_on (take n s) (get_or s n 0) (drop (n + 1) s) e ∙ ap (λ w. pieces (word w) (drop (n + 1) s)) (sym (take_more s n 0 h))

word-bytes-push : (w : Name) (c : ℕ) → word_bytes w ≡ true → word_byte c ≡ true → word_bytes (w ++ (c ∷ [])) ≡ true
word-bytes-push [] c h e = ap (λ (b : Bool). b && true) e
word-bytes-push (x ∷ w) c h e = go (λ k. word-bytes-push w c k e) (word_byte x) refl
  where
    go : (word_bytes w ≡ true → word_bytes (w ++ (c ∷ [])) ≡ true) → (b : Bool) → word_byte x ≡ b → word_bytes (x ∷ (w ++ (c ∷ []))) ≡ true
    go more true f = ap (λ (b : Bool). b && word_bytes (w ++ (c ∷ []))) f ∙ more (sym (ap (λ (b : Bool). b && word_bytes w) f) ∙ h)
    go more false f = absurd (both_ways true (sym h ∙ ap (λ (b : Bool). b && word_bytes w) f) refl)

pub word-bytes-on : (s : List ℕ) (n : ℕ) → n < length s → word_bytes (take n s) ≡ true → word_byte (get_or s n 0) ≡ true → word_bytes (take (n + 1) s) ≡ true
word-bytes-on s n h a e = ap word_bytes (take_more s n 0 h) ∙ word-bytes-push (take n s) (get_or s n 0) a e

pub word-stop : (s : List ℕ) (n : ℕ) → n < length s → word_byte (get_or s n 0) ≡ false → pieces (word (take n s)) (drop n s) ≡ take n s ∷ pieces gap (drop n s)
word-stop s n h e = at_drop_more (pieces (word (take n s))) s n 0 h ∙ word-off (take n s) (get_or s n 0) (drop (n + 1) s) e ∙ ap (λ r. take n s ∷ r) (sym (at_drop_more (pieces gap) s n 0 h))

pub word_end : (s : List ℕ) (n : ℕ) → length s ≤ n → pieces (word (take n s)) (drop n s) ≡ take n s ∷ pieces gap (drop n s)
word_end s n h = at_drop_all (pieces (word (take n s))) s n h ∙ ap (λ r. take n s ∷ r) (sym (at_drop_all (pieces gap) s n h))

-- a text in quotes goes on, and ends
pub quoted-more : (s : List ℕ) (n : ℕ) → n < length s → eqb (get_or s n 0) 34 ≡ false → pieces (quoted (34 ∷ take n s)) (drop n s) ≡ pieces (quoted (34 ∷ take (n + 1) s)) (drop (n + 1) s)
quoted-more s n h e = at_drop_more (pieces (quoted (34 ∷ take n s))) s n 0 h ∙ ap (λ (b : Bool). after (pick b (turn ((34 ∷ take n s) ∷ []) gap) (turn [] (quoted (34 ∷ (take n s ++ (get_or s n 0 ∷ [])))))) (drop (n + 1) s)) e ∙ ap (λ w. pieces (quoted (34 ∷ w)) (drop (n + 1) s)) (sym (take_more s n 0 h))

pub quoted-stop : (s : List ℕ) (n : ℕ) → n < length s → eqb (get_or s n 0) 34 ≡ true → pieces (quoted (34 ∷ take n s)) (drop n s) ≡ (34 ∷ take n s) ∷ pieces gap (drop (n + 1) s)
quoted-stop s n h e = at_drop_more (pieces (quoted (34 ∷ take n s))) s n 0 h ∙ ap (λ (b : Bool). after (pick b (turn ((34 ∷ take n s) ∷ []) gap) (turn [] (quoted (34 ∷ (take n s ++ (get_or s n 0 ∷ [])))))) (drop (n + 1) s)) e

pub quoted-end : (s : List ℕ) (n : ℕ) → length s ≤ n → pieces (quoted (34 ∷ take n s)) (drop n s) ≡ (35 ∷ []) ∷ []
quoted-end s n h = at_drop_all (pieces (quoted (34 ∷ take n s))) s n h

-- the bytes of a word that stand at the front, and the bytes before the first quote
pub word_run : (s : List ℕ) (k : ℕ) → k ≤ prefix_len word_byte s → (word_bytes (take k s) ≡ true) × (pieces (word []) s ≡ pieces (word (take k s)) (drop k s))
word_run s zero h = (refl, refl)
word_run s (suc k) h =
    let r = word_run s k (omega arith) in
    let l : k < length s = omega (arith, prefix_len-le-length word_byte s) in
    let p = prefix_len_passes word_byte s k 0 (omega arith) in
    rw (← add-one k) (word-bytes-on s k l r.0 p, r.1 ∙ word_more s k l p)

pub word_whole : (s : List ℕ) → let n = prefix_len word_byte s in pieces (word []) s ≡ take n s ∷ pieces gap (drop n s)
word_whole s = go (cases_lt (prefix_len word_byte s) (length s))
  where
    go : (prefix_len word_byte s < length s) ⊎ (length s ≤ prefix_len word_byte s) → pieces (word []) s ≡ take (prefix_len word_byte s) s ∷ pieces gap (drop (prefix_len word_byte s) s)
    go (inl l) = (word_run s (prefix_len word_byte s) (omega arith)).1 ∙ word-stop s _ l (prefix_len_stops word_byte s 0 l)
    go (inr h) = (word_run s (prefix_len word_byte s) (omega arith)).1 ∙ word_end s _ h

pub word-some : (s : List ℕ) → 0 < length s → word_byte (get_or s 0 0) ≡ true → 0 < prefix_len word_byte s
word-some s h e = omega (arith, prefix_len-drop_yes word_byte s 0 0 h e)

abbrev pub quote : ℕ → Bool
quote c = eqb c 34

quoted_run : (s : List ℕ) (k : ℕ) → k ≤ position_or_len quote s → pieces (quoted (34 ∷ [])) s ≡ pieces (quoted (34 ∷ take k s)) (drop k s)
quoted_run s zero h = refl
quoted_run s (suc k) h =
    let l : k < length s = omega (arith, prefix_len-le-length (λ c. not (quote c)) s) in
    rw (← add-one k) (quoted_run s k (omega arith) ∙ quoted-more s k l (fails_before_first quote s k 0 (omega arith)))

pub quoted-is : (s : List ℕ) (r : Option ℕ) → r ≡ cond (ltb (position_or_len quote s) (length s)) (Some (position_or_len quote s)) None → MatchOption r (pieces (quoted (34 ∷ [])) s ≡ (35 ∷ []) ∷ []) (λ n. (n < length s) × (pieces (quoted (34 ∷ [])) s ≡ (34 ∷ take n s) ∷ pieces gap (drop (n + 1) s)))
quoted-is s r e = go (cases_lt (position_or_len quote s) (length s))
  where
    n : ℕ
    n = position_or_len quote s

    run : pieces (quoted (34 ∷ [])) s ≡ pieces (quoted (34 ∷ take n s)) (drop n s)
    run = quoted_run s n (omega arith)

    go : (n < length s) ⊎ (length s ≤ n) → MatchOption r (pieces (quoted (34 ∷ [])) s ≡ (35 ∷ []) ∷ []) (λ n. (n < length s) × (pieces (quoted (34 ∷ [])) s ≡ (34 ∷ take n s) ∷ pieces gap (drop (n + 1) s)))
    go (inl l) = rw (e, lt-ltb n (length s) l) (l, run ∙ quoted-stop s n l (passes_at_first quote s 0 l))
    go (inr h) = rw (e, le-ltb n (length s) h) (run ∙ quoted-end s n h)

-- the gap: `noted` within a note
abbrev pub lull : Bool → Mode
lull true = note
lull false = gap

-- past the first three tests of `from_gap`
gap3 : (b1 b2 b3 : Bool) (t : Turn) (s : List ℕ) → b1 ≡ false → b2 ≡ false → b3 ≡ false → after (pick b1 (turn [] gap) (pick b2 (turn [] note) (pick b3 (turn [] (quoted (34 ∷ []))) t))) s ≡ after t s
gap3 true b2 b3 t s e1 e2 e3 = absurd (both_ways true e1 refl)
gap3 false true b3 t s e1 e2 e3 = absurd (both_ways true e2 refl)
gap3 false false true t s e1 e2 e3 = absurd (both_ways true e3 refl)
gap3 false false false t s e1 e2 e3 = refl

abbrev last2 : Bool → ℕ → Turn
last2 b c = pick b (turn [] (sign c)) (turn ((c ∷ []) ∷ []) gap)

gap-past : (c : ℕ) (s : List ℕ) → Starts (c ∷ s) → (c ≡ 34 → ⊥) → pieces gap (c ∷ s) ≡ after (pick (word_byte c) (turn [] (word (c ∷ []))) (last2 (may_join c) c)) s
gap-past c s h q = gap3 (blank c) (eqb c 35) (eqb c 34) (pick (word_byte c) (turn [] (word (c ∷ []))) (last2 (may_join c) c)) s h.0 h.1 (ne_eqb c 34 q)

gap-sign : (c : ℕ) (s : List ℕ) → Starts (c ∷ s) → (c ≡ 34 → ⊥) → word_byte c ≡ false → pieces gap (c ∷ s) ≡ after (last2 (may_join c) c) s
gap-sign c s h q e = gap-past c s h q ∙ ap (λ (b : Bool). after (pick b (turn [] (word (c ∷ []))) (last2 (may_join c) c)) s) e

gap-single : (c : ℕ) (s : List ℕ) → Starts (c ∷ s) → (c ≡ 34 → ⊥) → word_byte c ≡ false → may_join c ≡ false → pieces gap (c ∷ s) ≡ (c ∷ []) ∷ pieces gap s
gap-single c s h q e f = gap-sign c s h q e ∙ ap (λ (b : Bool). after (last2 b c) s) f

gap-begun : (c : ℕ) (s : List ℕ) → Starts (c ∷ s) → (c ≡ 34 → ⊥) → word_byte c ≡ false → may_join c ≡ true → pieces gap (c ∷ s) ≡ pieces (sign c) s
gap-begun c s h q e f = gap-sign c s h q e ∙ ap (λ (b : Bool). after (last2 b c) s) f

sign-joined : (d c : ℕ) (s : List ℕ) → joins d c ≡ true → pieces (sign d) (c ∷ s) ≡ (d ∷ c ∷ []) ∷ pieces gap s
sign-joined d c s e = ap (λ (b : Bool). after (pick b (turn ((d ∷ c ∷ []) ∷ []) gap) (from_gap ((d ∷ []) ∷ []) c)) s) e

sign_alone : (d c : ℕ) (s : List ℕ) → joins d c ≡ false → pieces (sign d) (c ∷ s) ≡ (d ∷ []) ∷ pieces gap (c ∷ s)
sign_alone d c s e = ap (λ (b : Bool). after (pick b (turn ((d ∷ c ∷ []) ∷ []) gap) (from_gap ((d ∷ []) ∷ []) c)) s) e ∙ fresh-out ((d ∷ []) ∷ []) c s

pub cut_by : {t b : List ℕ} → Body t b → (p : Piece) (m : ℕ) (r : List ℕ) → r ≡ drop m b → m ≤ length b → some p ≤ m → pieces gap b ≡ before p (pieces gap r) → Placed p t r → Sane p → Bare p → Cut t p r
cut_by {t} {b} h p m r e l n q w v x =
    let lb = ap length h.is ∙ length-drop h.at t in
    let lr = ap length e ∙ length-drop m b in
    let f = h.fits in
    let k : length t - length r ≡ h.at + m = omega arith in
    record {
      said = h.same ∙ q;
      less = omega arith;
      rest = e ∙ ap (drop m) h.is ∙ drop-drop m h.at t ∙ ap (λ i. drop i t) (sym k);
      placed = w;
      sane = v;
      bare = x;
    }

module _ {t b : List ℕ} (h : Body t b) (c : ℕ) (r : List ℕ) (e : b ≡ c ∷ r) where
  begun1 : Starts (c ∷ r)
  begun1 = subst Starts e h.starts

  size1 : length b ≡ 1 + length r
  size1 = ap length e ∙ sym (one-add (length r))

  rest1 : r ≡ drop 1 b
  rest1 = ap (drop 1) (sym e)

  sign1 : (c ≡ 34 → ⊥) → word_byte c ≡ false → pieces gap (c ∷ r) ≡ (c ∷ []) ∷ pieces gap r → Cut t (Sign c) r
  sign1 q l s = let z = size1 in cut_by h (Sign c) 1 r rest1 (omega arith) (omega arith) (ap (pieces gap) e ∙ s) tt l (ne_eqb c 34 q)

  pub cut_single : (c ≡ 34 → ⊥) → word_byte c ≡ false → may_join c ≡ false → Cut t (Sign c) r
  cut_single q l n = sign1 q l (gap-single c r begun1 q l n)

  pub cut_alone : (d : ℕ) (s : List ℕ) → (c ≡ 34 → ⊥) → word_byte c ≡ false → may_join c ≡ true → r ≡ d ∷ s → joins c d ≡ false → Cut t (Sign c) r
  cut_alone d s q l y f j = sign1 q l (gap-begun c r begun1 q l y ∙ subst (λ (u : List ℕ). pieces (sign c) u ≡ (c ∷ []) ∷ pieces gap u) (sym f) (sign_alone c d s j))

  pub cut_pair : (d : ℕ) (s : List ℕ) → (c ≡ 34 → ⊥) → word_byte c ≡ false → may_join c ≡ true → r ≡ d ∷ s → joins c d ≡ true → Cut t (Pair c d) s
  cut_pair d s q l y f j =
      let z = size1 in
      let y2 = ap length f ∙ sym (one-add (length s)) in
      cut_by h (Pair c d) 2 s (ap (drop 1) (sym f) ∙ ap (drop 1) rest1 ∙ drop-drop 1 1 b) (omega arith) (omega arith)
      (ap (pieces gap) e ∙ gap-begun c r begun1 q l y ∙ ap (pieces (sign c)) f ∙ sign-joined c d s j) tt l (ne_eqb c 34 q)

  pub cut_text : (w : Bor (List ℕ)) (n : ℕ) (u : List ℕ) → c ≡ 34 → n < length r → w.now ≡ take n r → u ≡ drop (n + 1) r → pieces (quoted (34 ∷ [])) r ≡ (34 ∷ take n r) ∷ pieces gap (drop (n + 1) r) → Cut t (Text w) u
  cut_text w n u q l ew er s =
      let z = size1 in
      let lw = ap length ew ∙ length-take-le n r (omega arith) in
      cut_by h (Text w) (1 + (n + 1)) u (er ∙ ap (drop (n + 1)) rest1 ∙ drop-drop (n + 1) 1 b) (omega arith) (omega arith)
      (ap (pieces gap) (e ∙ ap (λ k. k ∷ r) q) ∙ s ∙ ap₂ (λ x v. (34 ∷ x) ∷ pieces gap v) (sym ew) (sym er)) tt tt tt
