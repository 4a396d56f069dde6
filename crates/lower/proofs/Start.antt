-- From a loaded image to the first step of the main function.
use mathlib.Core.Path.{◌≡◌, refl, sym, ap, ◌∙◌}
use mathlib.Core.Bool.{Bool, true, false, not}
use mathlib.Core.Logic.{◌⊎◌, inl, inr}
use mathlib.Core.List.{List, [], ◌∷◌, ◌++◌, append_assoc}
use mathlib.Core.Option.{some}
use Prim.Native.Nat.{ℕ, zero, suc, ◌+◌, ◌-◌, ◌*◌, ◌%◌, ◌≤◌, ◌<◌}
use native.Mathlib.Omega.{arith}
use lib.ListN.{length, take, drop, replicate, length-take, length-drop, length-append, length-replicate, take-append-drop}
use lib.Seq.{drop-drop}
use lib.Dec.{T, ltb, ltb→lt}
use native.Mathlib.Nat.{zero-add, suc-add}
use borrow.Author.Tests.{ltb-true, ltb-false}
use Rattle.language.specs.Syntax.{opt, nth}
use Rattle.language.specs.Words.{all}
use Rattle.processor.specs.Machine.{Machine, does, reg}
use Rattle.processor.specs.Instr.{exec}
use Rattle.image.specs.Image.{Ready, within}
use Rattle.lower.specs.Promise.{first}
use Rattle.lower.specs.Lower.{lens, area, plens, part, flat, live_of, data_of, data_size, nought_words, data_words, tab_size, at_in, entry_in, frame_size, fun_of, image_of, prologue, row_of}
use Rattle.lower.proofs.InRow.{Neat, past}
use Rattle.steps.specs.Steps.{s_ret, Shape, fresh, MFn, MProg, MSt, m_goes, enters, m_begin}
use Rattle.lower.proofs.Lists.{nth_low, nth_left, none-some}
use Rattle.lower.proofs.Instructions.{Env, V, LI, to_real, address, links, wr, ◌▹◌, ◌▸◌, d_num, d_alui, d_up, d_jal, Steps, Some}
use Rattle.lower.proofs.Realized.{Sees, and_1, and_2}
use Rattle.lower.proofs.RowPlaces.{laid}
use Rattle.lower.proofs.Match.{Tabs, Ctx, Match, inside, full, last, Does}
use Rattle.lower.proofs.Arguments.{nth-split, nth-same}
use Rattle.lower.proofs.Prologue.{full_run, Enters, enter_run}
use Rattle.lower.proofs.Follows.{Follows, begun}
use Rattle.lower.proofs.StepCalls.{frame_fresh, more-arrays}
use Rattle.language.specs.Meaning.{Cells}
use Rattle.lower.proofs.TopArrays.{row_by, part-long}

-- the words are those of the row's instructions, and of the tables
pub record Coded (p : MProg) (main : ℕ) (code : List ℕ) : Type 0 where
  pub row : (q : ℕ) (i : LI) → nth (row_of p main) q ≡ some i → (w : ℕ) × (nth code q ≡ some w) × ((m : Machine) → does m w ≡ exec (to_real q i) m)
  pub tabs_in : tab_size p ≤ length code
  pub tabs : Tabs p (entry_in p) code (data_words p)

-- the stack's part of the memory
rest-is : (mem : List ℕ) (k top : ℕ) → k ≤ top → drop k mem ≡ take (top - k) (drop k mem) ++ drop top mem
rest-is mem k top h = let e : k + (top - k) ≡ top = omega arith in sym (take-append-drop (top - k) (drop k mem)) ∙ ap (λ r. take (top - k) (drop k mem) ++ r) (drop-drop (top - k) k mem ∙ ap (λ n. drop n mem) e)

pub rep_both : (x n k : ℕ) → replicate n x ++ replicate k x ≡ replicate (n + k) x
rep_both x zero k = ap (λ n. replicate n x) (sym (zero-add k))
rep_both x (suc n) k = ap (λ r. x ∷ r) (rep_both x n k) ∙ ap (λ n. replicate n x) (sym (suc-add n k))

pub all_small : (l : List ℕ) → T (within all l) → (j x : ℕ) → nth l j ≡ some x → x < all
all_small [] h j x e = none-some x e
all_small (y ∷ l) h zero x e = let z : y ≡ x = cc in let k : y < all = ltb→lt y all (and_1 (ltb y all) (within all l) h) in rw z at k
all_small (y ∷ l) h (suc j) x e = all_small l (and_2 (ltb y all) (within all l) h) j x e

-- of the data at first: what is not in the body is nought, and all are words
abbrev pub Firsts : MProg → Type 0
Firsts p = (flat (part (λ i. not (live_of p i)) p.arrays) ≡ replicate (area (plens (λ i. not (live_of p i)) (lens p.arrays))) 0) × ((i x : ℕ) → nth (data_of p) i ≡ some x → x < all)

both_small : (n : ℕ) (xs : List ℕ) → ((i x : ℕ) → nth xs i ≡ some x → x < all) → (i x : ℕ) → nth (xs ++ replicate n 0) i ≡ some x → x < all
both_small n xs h i x e = go (nth-split xs (replicate n 0) i x e)
  where
    go : (nth xs i ≡ some x) ⊎ ((j : ℕ) × (i ≡ length xs + j) × (nth (replicate n 0) j ≡ some x)) → x < all
    go (inl p) = h i x p
    go (inr (j, k, p)) = let (l, z) = nth-same n j 0 x p in omega arith

module _ (p : MProg) (main : ℕ) (code : List ℕ) (coded : Coded p main code) (some_code : 1 ≤ length code) (good : (g : ℕ) (f : MFn) → fun_of p g ≡ some f → Neat p f) (boot : MFn) (is_boot : nth p.funs 0 ≡ some boot) (boot_ends : nth boot.code 1 ≡ some (s_ret 0)) (noughts : Firsts p) (a top : ℕ) (mem ins : List ℕ) (m : Machine) (ready : Ready (image_of p code) a top mem ins m) where
  pub len_data : length (code ++ data_of p) ≡ length code + data_size p
  len_data = length-append code (data_of p) ∙ ap (λ n. length code + n) (part-long (live_of p) p.arrays)

  pub len_pre : length (take a mem) ≡ a
  len_pre = length-take a mem ∙ omega (arith, ready.fits, ready.in_mem)

  abbrev pub env : Env
  env = record { pre = take a mem; code = code; post = drop top mem; row = row_of p main; total = top - (a + length code); floor = data_words p; coded = coded.row; some_code = some_code; floor_in = omega (arith, len_data, ready.fits); in_words = omega (arith, len_data, len_pre, ready.fits, ready.in_mem, ready.small) }

  abbrev pub ctx : Ctx
  ctx = record { env = env; prog = p; entry = entry_in p; at = at_in p; exit = 4; floor_is = refl; tabs_in = coded.tabs_in; tabs = coded.tabs; laid = laid p main good; boot = boot; is_boot = is_boot; boot_ends = boot_ends }

  abbrev pub cells0 : List ℕ
  cells0 = data_of p ++ (replicate (nought_words p) 0 ++ take (top - (a + (length (code ++ data_of p) + nought_words p))) (drop (a + (length (code ++ data_of p) + nought_words p)) mem))

  -- register 2 is not yet 2,048 above the end of the stack's part, as if it were 512 words below, counted round all addresses
  abbrev pub v0 : V
  v0 = record { r = reg m; sp = (top - (a + length code)) + 1073741312; pc = 0; cells = cells0; ins = ins; outs = [] }

  pub sp-is : top ≡ (length (take a mem) + length code) + (top - (a + length code))
  sp-is = omega (arith, len_data, len_pre, ready.fits)

  pub floor_is : a + (length (code ++ data_of p) + nought_words p) ≡ (length (take a mem) + length code) + data_words p
  floor_is = omega (arith, len_data, len_pre)

  pub long0 : length cells0 ≡ top - (a + length code)
  long0 = simp (length-append, length-replicate, length-take, length-drop) (omega (arith, len_data, part-long (live_of p) p.arrays, ready.fits, ready.in_mem))

  pub seen0 : Sees env m v0
  seen0 = record {
    is_mem = ready.is_mem ∙ ap (λ r. take a mem ++ r) (append_assoc code (data_of p) _ ∙ ap (λ r. code ++ r) (ap (λ r. data_of p ++ (replicate (nought_words p) 0 ++ r)) (rest-is mem (a + (length (code ++ data_of p) + nought_words p)) top ready.fits) ∙ (ap (λ r. data_of p ++ r) (sym (append_assoc (replicate (nought_words p) 0) (take (top - (a + (length (code ++ data_of p) + nought_words p))) (drop (a + (length (code ++ data_of p) + nought_words p)) mem)) (drop top mem))) ∙ sym (append_assoc (data_of p) (replicate (nought_words p) 0 ++ take (top - (a + (length (code ++ data_of p) + nought_words p))) (drop (a + (length (code ++ data_of p) + nought_words p)) mem)) (drop top mem)))));
    is_pc = omega (arith, ready.at, len_data, len_pre, ready.fits, ready.in_mem, ready.small);
    len = ready.regs;
    is_sp = ap (λ o. opt o 0 (λ x. x)) ready.stack ∙ ap (λ n. 4 * n % all) sp-is ∙ omega arith;
    is_floor = ap (λ o. opt o 0 (λ x. x)) ready.floor ∙ ap (λ n. 4 * n % all) floor_is;
    is_r = λ q g. refl;
    is_ins = ready.reads;
    is_outs = ready.none_yet;
    long = long0;
  }

  -- words and arrays at first
  none_set : (as₁ : List Cells) (os : List Shape) → os ≡ [] → as₁ ≡ p.arrays → row_by (live_of p) (replicate p.words 0) (as₁ ++ fresh os) ≡ data_of p ++ replicate (nought_words p) 0
  none_set as₁ os e z = ap (row_by (live_of p) (replicate p.words 0)) (more-arrays as₁ os e ∙ z) ∙ ap (λ l. data_of p ++ (replicate p.words 0 ++ l)) noughts.0 ∙ ap (λ l. data_of p ++ l) (rep_both 0 p.words _)

  -- the main function's first state, or no room for it
  module _ (f : MFn) (k : fun_of p main ≡ some f) (none_in : f.params ≡ 0) where
    abbrev pub s0 : MSt
    s0 = enters f main 0 [] [] (m_begin p ins)

    small : 4 * frame_size f < all
    small = omega (arith, (good main f k).fits)

    abbrev pub v1 : V
    v1 = links (record { r = wr (wr v0.r 5 2047) 5 2048; sp = top - (a + length code); pc = 3; cells = cells0; ins = ins; outs = [] }) (address env 4) (entry_in p main)

    first_match : frame_size f ≤ v1.sp - data_words p → (w : Enters env f v1) → Match ctx s0 (record { r = w.r; sp = v1.sp - frame_size f; pc = past (entry_in p main) (prologue (entry_in p main) f); cells = w.cs; ins = ins; outs = [] })
    first_match room w =
        record {
          f = f;
          is_fn = k;
          is_pc = (laid p main good).first main f k;
          frame = frame_fresh w.cs (v1.sp - frame_size f) f [] (sym none_in) (λ j x q. none-some x q) w.vars;
          rets = last (record { ra = w.ra; is_fn = refl; is_pc = refl; is_dest = refl; ends = omega arith });
          words = λ i x q. let y : nth (data_of p ++ replicate (nought_words p) 0) i ≡ some x = ap (λ l. nth l i) (sym (none_set p.arrays f.own (good main f k).no_own refl)) ∙ q in (w.low i (omega (arith, nth_low (data_of p ++ replicate (nought_words p) 0) i x y, length-append (data_of p) (replicate (nought_words p) 0), length-replicate {A = ℕ} (nought_words p) 0, part-long (live_of p) p.arrays)) ∙ (ap (λ l. nth l i) (sym (append_assoc (data_of p) (replicate (nought_words p) 0) _)) ∙ nth_left (data_of p ++ replicate (nought_words p) 0) _ i x y), both_small (nought_words p) (data_of p) noughts.1 i x y);
          words_in = length-replicate {A = ℕ} p.words 0;
          shape = ap lens (more-arrays p.arrays f.own (good main f k).no_own);
          ins_small = λ j x q. all_small ins ready.ins_words j x q;
          above = omega arith;
          is_ins = refl;
          is_outs = refl;
          asked = omega (arith, (good main f k).costs);
          long = w.long;
        }

    begin_steps : {w : V} → Steps env w v1 → Some env w v0
    begin_steps q = d_num refl tt (omega arith) ▹ d_alui refl tt tt ▸ d_up 512 (top - (a + length code)) refl tt refl (omega arith) ▸ d_jal refl ▸ q

    goes_in : frame_size f ≤ v1.sp - data_words p → Enters env f v1 → Does ctx v0 (m_goes s0)
    goes_in room w = (_, begin_steps w.steps, inside (first_match room w))

    pub starts : Does ctx v0 (m_goes s0)
    starts = way (ltb (4 * (v1.sp - data_words p)) (4 * frame_size f)) refl
      where
        way : (b : Bool) → ltb (4 * (v1.sp - data_words p)) (4 * frame_size f) ≡ b → Does ctx v0 (m_goes s0)
        way true z =
            let (w, q, y) = full_run env f v1 small env.floor_in (omega arith) z ((laid p main good).begins main f k) in
            (w, begin_steps q, full (record { calls = y.calls; number = y.number; is_ins = y.is_ins; is_outs = y.is_outs; short = omega (arith, ltb-true (4 * (v1.sp - data_words p)) (4 * frame_size f) z, (good main f k).costs); marked = first }))
        way false z =
            let room : frame_size f ≤ v1.sp - data_words p = omega (arith, ltb-false (4 * (v1.sp - data_words p)) (4 * frame_size f) z) in
            goes_in room (enter_run env f v1 small (good main f k).few (good main f k).some_places env.floor_in (omega arith) long0 room ((laid p main good).begins main f k) z)

    pub from_start : Follows ctx m s0 0
    from_start = begun ctx m s0 v0 seen0 starts
