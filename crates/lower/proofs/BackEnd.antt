-- The back end's theorem: a loaded image follows the middle language.
use mathlib.Core.Path.{◌≡◌, refl, sym, ◌∙◌}
use mathlib.Core.Logic.{◌⊎◌, inl, inr}
use mathlib.Core.List.{List, []}
use mathlib.Core.Option.{some}
use Prim.Native.Nat.{ℕ, ◌+◌, ◌-◌, ◌≤◌, ◌<◌}
use native.Mathlib.Omega.{arith}
use lib.ListN.{length, take, drop}
use Rattle.language.specs.Syntax.{nth}
use Rattle.processor.specs.Machine.{Machine, goes, faults, after}
use Rattle.image.specs.Image.{Ready, size}
use Rattle.lower.specs.Promise.{Among}
use Rattle.lower.proofs.Match.{mark_of}
use Rattle.lower.specs.Lower.{fun_of, image_of, row_of, code_words}
use Rattle.lower.proofs.InRow.{Neat}
use Rattle.steps.specs.Steps.{s_ret, MFn, MProg, MSt, MNext, m_goes, m_ends, m_traps, m_stuck, m_after, m_begin, enters}
use Rattle.lower.proofs.Follows.{Ended, Is, Short, Follows, follows}
use Rattle.lower.proofs.AtEveryStep.{never_faults, outside}
use Rattle.lower.proofs.TableWords.{coded_all}
use Rattle.lower.proofs.Start.{Coded, Firsts, ctx, from_start, len_pre, len_data}

-- the first state of the main function
abbrev pub first_state : MProg → ℕ → MFn → List ℕ → MSt
first_state p main f ins = enters f main 0 [] [] (m_begin p ins)

-- the processor after some k steps, k at least n, is where the middle language is after n
abbrev pub Same : Machine → ℕ → ℕ → MNext → Type 0
Same m n k (m_goes s) = (x : Machine) × (after k m ≡ goes x) × (x.ins ≡ s.ins) × (x.outs ≡ s.outs) × (n ≤ k)
Same m n k (m_ends y s) = Ended 0 y k m s
Same m n k (m_traps y s) = Ended 3 y k m s
Same m n k m_stuck = Unit {0}

pub record Stopped (p : MProg) (s0 : MSt) (m : Machine) (room k n : ℕ) : Type 0 where
  pub s : MSt
  pub steps : ℕ
  pub by : steps ≤ n
  pub at : m_after p steps s0 ≡ m_goes s
  pub ended : Ended 4 0 k m s
  pub short : room < s.held
  pub marked : Among (mark_of s) s.calls

pub record Backs (p : MProg) (s0 : MSt) (a top room : ℕ) (m : Machine) : Type 0 where
  pub never_faults : ((n : ℕ) → m_after p n s0 ≡ m_stuck → ⊥) → (k : ℕ) → after k m ≡ faults → ⊥
  pub outside : ((n : ℕ) → m_after p n s0 ≡ m_stuck → ⊥) → (k : ℕ) (x : Machine) → after k m ≡ goes x → (take a x.mem ≡ take a m.mem) × (drop top x.mem ≡ drop top m.mem)
  pub follows : (n : ℕ) → (k : ℕ) × (Same m n k (m_after p n s0) ⊎ Stopped p s0 m room k n)

module _ (p : MProg) (main : ℕ) (code : List ℕ) (coded : Coded p main code) (some_code : 1 ≤ length code) (good : (g : ℕ) (f : MFn) → fun_of p g ≡ some f → Neat p f) (boot : MFn) (is_boot : nth p.funs 0 ≡ some boot) (boot_ends : nth boot.code 1 ≡ some (s_ret 0)) (noughts : Firsts p) (f : MFn) (k : fun_of p main ≡ some f) (none_in : f.params ≡ 0) (a top : ℕ) (mem ins : List ℕ) (m : Machine) (ready : Ready (image_of p code) a top mem ins m) where
  abbrev s0 : MSt
  s0 = first_state p main f ins

  start : Follows (ctx p main code coded some_code good boot is_boot boot_ends noughts a top mem ins m ready) m s0 0
  start = from_start p main code coded some_code good boot is_boot boot_ends noughts a top mem ins m ready f k none_in

  keeps_out : ((n : ℕ) → m_after p n s0 ≡ m_stuck → ⊥) → (j : ℕ) (x : Machine) → after j m ≡ goes x → (take a x.mem ≡ take a mem) × (drop top x.mem ≡ drop top mem)
  keeps_out w j x h =
      let (u, v) = outside (ctx p main code coded some_code good boot is_boot boot_ends noughts a top mem ins m ready) m s0 start w j x h in
      let l : length (take a mem) ≡ a = len_pre p main code coded some_code good boot is_boot boot_ends noughts a top mem ins m ready in
      let t : (length (take a mem) + length code) + (top - (a + length code)) ≡ top = omega (arith, len_data p main code coded some_code good boot is_boot boot_ends noughts a top mem ins m ready, ready.fits) in
      (rw l at u, rw t at v)

  same : (n j : ℕ) (q : MNext) → Is (ctx p main code coded some_code good boot is_boot boot_ends noughts a top mem ins m ready) m n j q → Same m n j q
  same n j (m_goes s) (x, v, h, e, inl o, l) = (x, h, e.is_ins ∙ o.is_ins, e.is_outs ∙ o.is_outs, l)
  same n j (m_goes s) (x, v, h, e, inr o, l) = (x, h, e.is_ins ∙ o.is_ins, e.is_outs ∙ o.is_outs, l)
  same n j (m_ends y s) i = i
  same n j (m_traps y s) i = i
  same n j m_stuck i = tt

  follow : (n : ℕ) → (j : ℕ) × (Same m n j (m_after p n s0) ⊎ Stopped p s0 m (top - (a + size (image_of p code))) j n)
  follow n = go (follows (ctx p main code coded some_code good boot is_boot boot_ends noughts a top mem ins m ready) m s0 start n)
    where
      go : Follows (ctx p main code coded some_code good boot is_boot boot_ends noughts a top mem ins m ready) m s0 n → (j : ℕ) × (Same m n j (m_after p n s0) ⊎ Stopped p s0 m (top - (a + size (image_of p code))) j n)
      go r = (r.k, either r.is)
        where
          either : Is (ctx p main code coded some_code good boot is_boot boot_ends noughts a top mem ins m ready) m n r.k (m_after p n s0) ⊎ Short (ctx p main code coded some_code good boot is_boot boot_ends noughts a top mem ins m ready) m r.k n s0 → Same m n r.k (m_after p n s0) ⊎ Stopped p s0 m (top - (a + size (image_of p code))) r.k n
          either (inl i) = inl (same n r.k (m_after p n s0) i)
          either (inr o) = inr (record { s = o.s; steps = o.steps; by = o.by; at = o.at; ended = o.ended; short = omega (arith, len_data p main code coded some_code good boot is_boot boot_ends noughts a top mem ins m ready, o.short); marked = o.marked })

  pub back_end : Backs p s0 a top (top - (a + size (image_of p code))) m
  back_end = record {
    never_faults = λ w j h. never_faults (ctx p main code coded some_code good boot is_boot boot_ends noughts a top mem ins m ready) m s0 start w j h;
    outside = λ w j x h. let (u, v) = keeps_out w j x h in let (u0, v0) = keeps_out w 0 m refl in (u ∙ sym u0, v ∙ sym v0);
    follows = follow;
  }

-- what the program keeps to, by its functions
pub record Tame (p : MProg) (main : ℕ) (f : MFn) : Type 0 where
  pub is_main : fun_of p main ≡ some f
  pub none_in : f.params ≡ 0
  pub neat : (g : ℕ) (h : MFn) → fun_of p g ≡ some h → Neat p h
  pub short_row : length (row_of p main) < 262144
  pub boot : MFn
  pub is_boot : nth p.funs 0 ≡ some boot
  pub boot_ends : nth boot.code 1 ≡ some (s_ret 0)
  pub noughts : Firsts p

pub the_back-end : (p : MProg) (main : ℕ) (f : MFn) → Tame p main f → (a top : ℕ) (mem ins : List ℕ) (m : Machine) → Ready (image_of p (code_words p main)) a top mem ins m → Backs p (first_state p main f ins) a top (top - (a + size (image_of p (code_words p main)))) m
the_back-end p main f t a top mem ins m ready = back_end p main (code_words p main) (coded_all p main t.neat t.short_row) (omega arith) t.neat t.boot t.is_boot t.boot_ends t.noughts f t.is_main t.none_in a top mem ins m ready
