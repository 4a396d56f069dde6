-- The tables and the code as lists.
use Rattle.std.proofs.Common.{◌≡◌, ℕ, Option, Some, None, MatchOption, ltb, lt-ltb, zero, suc, ◌+◌, ◌-◌, ◌<◌, ◌≤◌, not, List, [], ◌∷◌, ◌++◌, length, get_or, take, drop, sym, refl, ap, ◌∙◌, subst, ap₂, append-nil, add-zero, arith, length-append, take-append-drop}
use Rattle.std.specs.Bool.{then_some}
use Rattle.std.proofs.lemmas.List.{take_all}
use Rattle.rows.specs.Trees.{list_row}
use Rattle.rows.specs.Has.{Has}
use Rattle.rows.specs.Row.{Pushed, Wrote}
use Rattle.rows.specs.declared.row.Row.{Row}
use Rattle.rows.proofs.Having.{has-at}
use Rattle.steps.specs.Steps.{MFn, MProg}
use Rattle.steps.specs.Fits.{Each, FnFits}
use Rattle.processor.specs.declared.instr.Instr.{Instr}
use Rattle.processor.specs.declared.instr.Instr.TheVariants.{Jal}
use Rattle.generator.specs.StepRows.{fn_words}
use Rattle.lower.specs.Code.{LI, rel, l_num, l_alui, l_upr}
use Rattle.processor.specs.declared.instr.Imm.TheVariants.{Addi}
use Rattle.image.specs.Image.{row}
use Rattle.lower.specs.Lower.{pro_width, fun_width, fun_row, entry_of, entry_in, others, row_of, words_of, funs_row, stub, tab_size, tab_words, data_words, data_of, flat, part, live_of, area, plens, lens, nought_words, code_words, image_of}
use Rattle.lower.specs.Core.{Core}
use Rattle.lower.proofs.RowPlaces.{fun_width-is}
use Rattle.assembler.specs.declared.code.Code.{Code}
use Rattle.assembler.specs.declared.program.Program.{Program}
use Rattle.assembler.specs.declared.program.Tables as tables
use Rattle.assembler.specs.Emission.{reals, encoded, Put}
use Rattle.assembler.specs.Tables.{starts, begins, all_starts, steps_in, FunctionsAre, Tabled}
use Rattle.assembler.specs.Assembled.{Given, Ready}
use Rattle.assembler.proofs.Putting.{put_as, put_then, reals-words, reals-length, encoded-length}
use Rattle.assembler.proofs.Emitting.{funs_real, starts-long}

has-front : (w ws : List ℕ) (n : ℕ) → take n w ≡ ws → length ws ≤ length w → Has w 0 ws
has-front w ws n e h = record { rest = drop n w; is = sym (take-append-drop n w) ∙ ap (λ l. l ++ drop n w) e; inside = omega (arith, h) }

-- a table that was pushed word by word into empty room
pub pushed-table : {o p : Row} {ws : List ℕ} → o.len ≡ 0 → Pushed o p ws → length ws ≤ length o.words.now → Has p.words.now 0 ws
pushed-table {o} {p} {ws} e h l =
    let g : Wrote o p ws = h.wrote (omega (arith, e, l)) in
    has-front p.words.now ws p.len (g.grown ∙ ap (λ n. take n o.words.now ++ ws) e) (omega (arith, h.kept, l))

pub begins-long : (m : MProg) (fs : List MFn) (q : ℕ) → length (begins m fs q) ≡ length fs
begins-long m [] q = refl
begins-long m (f ∷ fs) q = ap suc (begins-long m fs (q + fun_width m f))

pub all-starts-long : (m : MProg) (fs : List MFn) (q : ℕ) → length (all_starts m fs q) ≡ steps_in fs
all-starts-long m [] q = refl
all-starts-long m (f ∷ fs) q =
    let a = length-append (starts m f f.code (q + pro_width f)) (all_starts m fs (q + fun_width m f)) in
    omega (arith, a, starts-long m f f.code (q + pro_width f), all-starts-long m fs (q + fun_width m f))

pub has_same : {w v ws : List ℕ} → w ≡ v → Has v 0 ws → Has w 0 ws
has_same {w} {v} {ws} e h = subst (λ x. Has x 0 ws) (sym e) h

-- what is given, as the parts want it
others-long : (fs : List MFn) → 1 ≤ length fs → suc (length (others fs)) ≡ length fs
others-long [] h = absurd (let z : ⊥ = omega arith in z)
others-long (f ∷ fs) h = refl

others-each : (P : MFn → Type 0) (fs : List MFn) → Each P fs → Each P (others fs)
others-each P [] h = h
others-each P (f ∷ fs) h = h.1

begins-at : (m : MProg) (fs : List MFn) (q g : ℕ) → g < length fs → get_or (begins m fs q) g 0 ≡ entry_of m fs q g
begins-at m [] q g h = absurd (let z : ⊥ = omega arith in z)
begins-at m (f ∷ fs) q zero h = refl
begins-at m (f ∷ fs) q (suc g) h = begins-at m fs (q + fun_width m f) g (omega arith)

entries_at : (m : MProg) (e : List ℕ) → Has e 0 (0 ∷ begins m (others m.funs) 6) → (h : ℕ) → 1 ≤ h → h < length m.funs → get_or e h 0 ≡ entry_in m h
entries_at m e k zero a b = absurd (let z : ⊥ = omega arith in z)
entries_at m e k (suc g) a b =
    let l = others-long m.funs (omega arith) in
    let z : suc g ≡ 0 + suc g = omega arith in
    ap (λ n. get_or e n 0) z ∙ (has-at (suc g) k (omega (arith, b, l, begins-long m (others m.funs) 6)) ∙ begins-at m (others m.funs) 6 g (omega (arith, b, l)))

pub tabled : {m : MProg} {p : Program} {t : tables.Tables} → Given m p → Ready m t → Tabled m p.words t.entries.now
tabled {m} {p} {t} g r = record { words = g.words; small = g.core.words; no_arrays = g.core.no_arrays; calls = entries_at m t.entries.now r.entries }

pub functions-given : {m : MProg} {w : List ℕ} {main count : ℕ} → Core m main → w ≡ list_row fn_words (others m.funs) → count ≡ length (others m.funs) → FunctionsAre w count (others m.funs)
functions-given {m} {w} {main} {count} c e n = record {
  has = record { rest = []; is = e ∙ sym (append-nil (list_row fn_words (others m.funs))); inside = let l : length w ≡ length (list_row fn_words (others m.funs)) = ap length e in omega arith };
  long = n;
  core = c.funs;
}

-- the words of the whole code
abbrev beginning : MProg → ℕ → ℕ → List Instr
beginning m n e = reals 0 (l_num 5 2047 ∷ l_alui Addi 5 5 1 ∷ l_upr 5 ∷ []) ++ (Jal 1 (rel n e) ∷ reals 4 stub)

pub code-written : {m : MProg} {p : Program} {t : tables.Tables} {o q r : Code} {e : ℕ} → Given m p → Ready m t → o.here ≡ 0 → length o.words.now ≡ length (row_of m p.main) → e ≡ get_or t.entries.now p.main 0
    → Put o q (beginning m (o.here + 3) e)
    → ((fs : List MFn) → Tabled m p.words t.entries.now → FunctionsAre p.steps.now p.count fs → Each (FnFits m) fs → Has t.places.now 0 (all_starts m fs q.here) → Put q r (funs_real m fs q.here))
    → (r.words.ghost_name ≡ o.words.ghost_name) × (r.words.now ≡ words_of 0 (row_of m p.main))
code-written {m} {p} {t} {o} {q} {r} {e} g k here long entry begun functions =
    let fs = others m.funs in
    let tb = tabled g k in
    let n : o.here + 3 ≡ 3 = omega arith in
    let en : e ≡ entry_in m p.main = entry ∙ tb.calls p.main g.core.main_first g.core.main_there in
    let first : Put o q (beginning m 3 (entry_in m p.main)) = put_as (ap₂ (λ (x y : ℕ). beginning m x y) n en) begun in
    let six = (first.grown (omega (arith, here, long))).long in
    let at : q.here ≡ 6 = omega (arith, here, six) in
    let rest = functions fs tb (functions-given g.core g.steps g.count) (others-each (FnFits m) m.funs g.core.fits.funs) (subst (λ x. Has t.places.now 0 (all_starts m fs x)) (sym at) k.places) in
    let whole : Put o r (reals 0 (row_of m p.main)) = put_then (beginning m 3 (entry_in m p.main)) (funs_real m fs 6) first rest (λ x. ap (λ y. funs_real m fs y) at) in
    let l = reals-length 0 (row_of m p.main) in
    let done = whole.grown (omega (arith, here, long, l)) in
    let all_of_it : length r.words.now ≤ r.here = omega (arith, whole.kept, long, here, done.long, l, encoded-length (reals 0 (row_of m p.main))) in
    (whole.same, sym (take_all r.here r.words.now all_of_it) ∙ (done.is ∙ (ap (λ x. take x o.words.now ++ encoded (reals 0 (row_of m p.main))) here ∙ reals-words 0 (row_of m p.main))))

-- how long the code is
words_long : (p : ℕ) (xs : List LI) → length (words_of p xs) ≡ length xs
words_long p [] = refl
words_long p (x ∷ xs) = ap suc (words_long (suc p) xs)

funs-end : (en : ℕ → ℕ) (m : MProg) (fs : List MFn) (q : ℕ) → entry_of m fs q (length fs) ≡ q + length (funs_row en m fs q)
funs-end en m [] q = omega arith
funs-end en m (f ∷ fs) q =
    let a = length-append (fun_row en m f q) (funs_row en m fs (q + fun_width m f)) in
    omega (arith, a, fun_width-is en m f q, funs-end en m fs (q + fun_width m f))

pub code-end : (m : MProg) (main : ℕ) → entry_of m (others m.funs) 6 (length (others m.funs)) ≡ length (row_of m main)
code-end m main = omega (arith, funs-end (entry_in m) m (others m.funs) 6)

-- the row of the image, with no tables and no arrays
row_is : {m : MProg} {main : ℕ} → Core m main → row (image_of m (code_words m main)) ≡ 19525 ∷ length (row_of m main) ∷ m.words ∷ 0 ∷ 0 ∷ words_of 0 (row_of m main)
row_is {m} {main} c =
    let code = words_of 0 (row_of m main) in
    let behind = (length (row_of m main) + tab_size m) + data_words m in
    let t : code_words m main ≡ code = ap (λ ts. code ++ tab_words (entry_in m) behind ts) c.no_tables ∙ append-nil code in
    let d : data_of m ≡ [] = ap (λ cs. flat (part (live_of m) cs)) c.no_arrays in
    let b : code_words m main ++ data_of m ≡ code = ap₂ (λ (x y : List ℕ). x ++ y) t d ∙ append-nil code in
    let n : nought_words m ≡ m.words = ap (λ cs. m.words + area (plens (λ i. not (live_of m i)) (lens cs))) c.no_arrays ∙ add-zero m.words in
    ap₂ (λ (x : List ℕ) (y : ℕ). 19525 ∷ length x ∷ y ∷ 0 ∷ 0 ∷ (x ++ [])) b n
    ∙ ap₂ (λ (x : ℕ) (y : List ℕ). 19525 ∷ x ∷ m.words ∷ 0 ∷ 0 ∷ y) (words_long 0 (row_of m main)) (append-nil code)

abbrev whole_row : MProg → ℕ → List ℕ
whole_row m main = row (image_of m (code_words m main))

row-long : {m : MProg} {main : ℕ} → Core m main → length (whole_row m main) ≡ 5 + length (row_of m main)
row-long {m} {main} c =
    let a : length (whole_row m main) ≡ length (19525 ∷ length (row_of m main) ∷ m.words ∷ 0 ∷ 0 ∷ words_of 0 (row_of m main)) = ap length (row_is c) in
    omega (arith, a, words_long 0 (row_of m main))

-- the answers
pub no_room : {m : MProg} {main size : ℕ} (o : List ℕ) → Core m main → size ≡ length (row_of m main) → length o < 5 + size → length o < length (whole_row m main)
no_room {m} {main} {size} o c e h = subst (λ n. length o < n) (sym (row-long c)) (omega (arith, e, h))

pub assembled : {m : MProg} {main size words : ℕ} (o : List ℕ) {o' : List ℕ} → Core m main → size ≡ length (row_of m main) → words ≡ m.words → 5 + size ≤ length o → o' ≡ (19525 ∷ size ∷ words ∷ 0 ∷ 0 ∷ words_of 0 (row_of m main)) ++ drop (5 + size) o → (5 + size ≡ length (whole_row m main)) × (length (whole_row m main) ≤ length o) × (o' ≡ whole_row m main ++ drop (5 + size) o)
assembled {m} {main} {size} {words} o {o'} c e h l k =
    let n : 5 + size ≡ length (whole_row m main) = ap (λ x. 5 + x) e ∙ sym (row-long c) in
    (n, subst (λ x. x ≤ length o) n l, k ∙ ap (λ r. r ++ drop (5 + size) o) (ap₂ (λ (x y : ℕ). 19525 ∷ x ∷ y ∷ 0 ∷ 0 ∷ words_of 0 (row_of m main)) e h ∙ sym (row_is c)))

-- room for both tables
pub table-room : {m : MProg} {main count n : ℕ} → Core m main → count ≡ length (others m.funs) → steps_in (others m.funs) + length m.funs ≤ n → (count + 1 ≤ n) × (1 + length (others m.funs) ≤ count + 1) × (steps_in (others m.funs) ≤ n - (count + 1))
table-room {m} {main} {count} {n} c e h =
    let l = others-long m.funs (omega (arith, c.main_there)) in
    (omega (arith, l, e, h), omega (arith, e), omega (arith, l, e, h))

pub none_some : {n : ℕ} {P : Type 0} → None ≡ Some n → P
none_some e = absurd (subst (λ (o : Option ℕ). MatchOption o (Unit {0}) (λ _. ⊥)) e tt)

pub some_same : {a b : ℕ} → Some a ≡ Some b → a ≡ b
some_same e = cc

-- a size, if every jump reaches
pub reached : {n k : ℕ} {r : Option ℕ} → r ≡ then_some (ltb n 262144) n → Some n ≡ Some k → k < 262144 → r ≡ Some k
reached {n} {k} {r} e s h =
    let i = some_same s in
    e ∙ (ap (λ b. then_some b n) (lt-ltb n 262144 (omega arith)) ∙ s)
