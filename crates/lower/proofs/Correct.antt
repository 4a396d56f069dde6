-- The main theorem: the image of a program runs as the program means.
use mathlib.Core.Path.{◌≡◌, refl, sym, ap, subst, ◌∙◌}
use mathlib.Core.Bool.{Bool, true, false, ◌&&◌}
use mathlib.Core.Logic.{◌⊎◌, inl, inr}
use mathlib.Core.List.{List, []}
use Prim.Native.Nat.{ℕ, zero, suc, ◌*◌, ◌≤◌}
use native.Mathlib.Omega.{arith}
use lib.ListN.{length}
use lib.Dec.{T, leb, leb→le}
use borrow.Author.Tests.{lt-ltb}
use Rattle.language.specs.Syntax.{Prog}
use Rattle.language.specs.Checks.{ok}
use Rattle.grammar.specs.Text.{Reads}
use Rattle.language.specs.Meaning.{Mark, State, val, trap, word, means}
use Rattle.processor.specs.Machine.{Machine, Next, goes, halts, faults, after, shown}
use Rattle.image.specs.Image.{Image}
use Rattle.language.specs.Observe.{Front, and_so, outs_of, IsSpent}
use Rattle.lower.specs.Promise.{Among, first, later, stack_words, StackShort, Right}
use Rattle.steps.specs.Steps.{MProg, MSt, MNext, m_goes, m_ends, m_traps, m_stuck, m_step, m_then, m_after, m_begin, m_shown}
use Rattle.steps.specs.Generate.{gen_prog}
use Rattle.steps.specs.Correct.{MidRight}
use Rattle.lower.specs.Lower.{compile, main_no}
use Rattle.lower.specs.Correct.{BareRight, CompiledRight, CompiledSound, CompiledFits, CompiledShort}
use Rattle.steps.proofs.Checked.{mid-holds}
use Rattle.lower.proofs.Follows.{Ended}
use Rattle.lower.proofs.BackEnd.{Backs, Same, Stopped, first_state, the_back-end}
use Rattle.lower.proofs.Tame.{Begins, begins, bare_low}
use Rattle.grammar.specs.Bounds.{words}
use Rattle.grammar.proofs.PieceKinds.{and_0}
use Rattle.grammar.proofs.Size.{words-bound}
use Rattle.lower.proofs.CodeSize.{costs, costs_fair}
use Rattle.lower.proofs.ImageSize.{row-long, image-long}
use Rattle.lower.proofs.Noughts.{few_noughts}
use Rattle.lower.proofs.Shown.{front_trans, shown-goes, shown-halts, one_end, no_end}

is_true : (b : Bool) → T b → b ≡ true
is_true true h = refl
is_true false h = absurd h

among_front : {x : Mark} {s t : List Mark} → Among x s → Front s t → Among x t
among_front first (and_so f) = first
among_front (later a) (and_so f) = later (among_front a f)

-- what the middle language's promise and the back end's give together; s0 is the state after its first step
module _ (p : Prog) (P : MProg) (i : Image) (a top : ℕ) (ins : List ℕ) (m : Machine) (s0 : MSt) (goes_in : m_step P (m_begin P ins) ≡ m_goes s0) (mid : MidRight p P ins) (backs : Backs P s0 a top (stack_words i a top) m) (none_out : m.outs ≡ []) where
  next : (n : ℕ) → m_after P (suc n) (m_begin P ins) ≡ m_after P n s0
  next n = ap (λ r. m_then r (λ x. m_after P n x)) goes_in

  never : (n : ℕ) → m_after P n s0 ≡ m_stuck → ⊥
  never n e = mid.never_stuck (suc n) (next n ∙ e)

  -- what is shown is meant
  meant : (n : ℕ) (q : MNext) → m_after P n s0 ≡ q → (l : List ℕ) → Front l (m_shown q) → (j : ℕ) × Front l (outs_of (means p ins j))
  meant n q e l f = let (j, g) = mid.shows (suc n) in (j, front_trans f (subst (λ r. Front (m_shown r) (outs_of (means p ins j))) (next n ∙ e) g))

  short_of : {k n : ℕ} (o : Stopped P s0 m (stack_words i a top) k n) → StackShort p ins (stack_words i a top) o.ended.last
  short_of o =
      let (n, s, e, f) = mid.marks (suc o.steps) o.s (next o.steps ∙ o.at) in
      (n, s, _, e, among_front o.marked f, o.short, ap length (sym o.ended.is_outs), ap length (sym o.ended.is_ins))

  shows : (k : ℕ) → (n : ℕ) × Front (shown (after k m)) (outs_of (means p ins n))
  shows k = go (backs.follows (suc k))
    where
      ended : (j c y : ℕ) (s : MSt) (q : MNext) (n : ℕ) → m_after P n s0 ≡ q → m_shown q ≡ s.outs → Ended c y j m s → (n : ℕ) × Front (shown (after k m)) (outs_of (means p ins n))
      ended j c y s q n e w d = meant n q e _ (subst (Front (shown (after k m))) (d.is_outs ∙ sym w) (shown-halts k j c y m d.last d.comes))

      by : (j : ℕ) (q : MNext) → m_after P (suc k) s0 ≡ q → Same m (suc k) j q → (n : ℕ) × Front (shown (after k m)) (outs_of (means p ins n))
      by j (m_goes s) e (x, h, u, w, l) = meant (suc k) (m_goes s) e _ (subst (Front (shown (after k m))) w (shown-goes k j m x (omega arith) h))
      by j (m_ends y s) e d = ended j 0 y s (m_ends y s) (suc k) e refl d
      by j (m_traps y s) e d = ended j 3 y s (m_traps y s) (suc k) e refl d
      by j m_stuck e d = absurd (never (suc k) e)

      go : (j : ℕ) × (Same m (suc k) j (m_after P (suc k) s0) ⊎ Stopped P s0 m (stack_words i a top) j (suc k)) → (n : ℕ) × Front (shown (after k m)) (outs_of (means p ins n))
      go (j, inl d) = by j (m_after P (suc k) s0) refl d
      go (j, inr o) = ended j 4 0 o.s (m_goes o.s) o.steps o.at refl o.ended

  abbrev Followed : ℕ → Type 0
  Followed n = (k : ℕ) × (Front (outs_of (means p ins n)) (shown (after k m)) ⊎ ((x : Machine) × (after k m ≡ halts 4 0 x) × StackShort p ins (stack_words i a top) x))

  follows : (n : ℕ) → Followed n
  follows n = let (k, f) = mid.follows n in from k f
    where
      by : (k j : ℕ) (q : MNext) → m_after P k s0 ≡ q → Front (outs_of (means p ins n)) (m_shown q) → Same m k j q → Followed n
      by k j (m_goes s) e f (x, h, u, w, l) = (j, inl (subst (Front (outs_of (means p ins n))) (sym (ap shown h ∙ w)) f))
      by k j (m_ends y s) e f d = (j, inl (subst (Front (outs_of (means p ins n))) (sym (ap shown d.comes ∙ d.is_outs)) f))
      by k j (m_traps y s) e f d = (j, inl (subst (Front (outs_of (means p ins n))) (sym (ap shown d.comes ∙ d.is_outs)) f))
      by k j m_stuck e f d = absurd (never k e)

      go : (k : ℕ) → Front (outs_of (means p ins n)) (m_shown (m_after P k s0)) → (j : ℕ) × (Same m k j (m_after P k s0) ⊎ Stopped P s0 m (stack_words i a top) j k) → Followed n
      go k f (j, inl d) = by k j (m_after P k s0) refl f d
      go k f (j, inr o) = (j, inr (o.ended.last, o.ended.comes, short_of o))

      from : (k : ℕ) → Front (outs_of (means p ins n)) (m_shown (m_after P k (m_begin P ins))) → Followed n
      from zero f = (0, inl (subst (Front (outs_of (means p ins n))) (sym none_out) f))
      from (suc k) f = go k (subst (λ r. Front (outs_of (means p ins n)) (m_shown r)) (next k) f) (backs.follows k)

  abbrev EndedSo : ℕ → ℕ → Machine → Type 0
  EndedSo c x z = ((c ≡ 0) × ((n : ℕ) × (s : State) × (means p ins n ≡ val (word x) s) × (z.outs ≡ s.outs) × (z.ins ≡ s.ins))) ⊎ (((c ≡ 3) × ((n : ℕ) × (s : State) × (means p ins n ≡ trap x s) × (z.outs ≡ s.outs) × (z.ins ≡ s.ins))) ⊎ ((c ≡ 4) × StackShort p ins (stack_words i a top) z))

  abbrev End : Next → Type 0
  End (goes z) = Unit {0}
  End (halts c x z) = EndedSo c x z
  End faults = Unit {0}

  ends : (k c x : ℕ) (z : Machine) → after k m ≡ halts c x z → EndedSo c x z
  ends k c x z h = go (backs.follows (suc k))
    where
      by : (j : ℕ) (q : MNext) → m_after P (suc k) s0 ≡ q → Same m (suc k) j q → EndedSo c x z
      by j (m_goes s) e (w, g, u, v, l) = absurd (no_end k j c x m z w (omega arith) h g)
      by j (m_ends y s) e d = let (n, t, f, u, v) = mid.ends (suc (suc k)) y s (next (suc k) ∙ e) in subst End (sym (one_end k j c 0 x y m z d.last h d.comes)) (inl (refl, (n, t, f, d.is_outs ∙ u, d.is_ins ∙ v)))
      by j (m_traps y s) e d = let (n, t, f, u, v) = mid.traps (suc (suc k)) y s (next (suc k) ∙ e) in subst End (sym (one_end k j c 3 x y m z d.last h d.comes)) (inr (inl (refl, (n, t, f, d.is_outs ∙ u, d.is_ins ∙ v))))
      by j m_stuck e d = absurd (never (suc k) e)

      go : (j : ℕ) × (Same m (suc k) j (m_after P (suc k) s0) ⊎ Stopped P s0 m (stack_words i a top) j (suc k)) → EndedSo c x z
      go (j, inl d) = by j (m_after P (suc k) s0) refl d
      go (j, inr o) = subst End (sym (one_end k j c 4 x 0 m z o.ended.last h o.ended.comes)) (inr (inr (refl, short_of o)))

  abbrev Come : Type 0
  Come = (k c x : ℕ) × (z : Machine) × (after k m ≡ halts c x z)

  comes_to : (n : ℕ) → (IsSpent (means p ins n) → ⊥) → Come
  comes_to n h = let (k, x, z, e) = mid.comes_to n h in from k x z e
    where
      go : (k : ℕ) (x : ℕ) (z : MSt) → (m_after P k s0 ≡ m_ends x z) ⊎ (m_after P k s0 ≡ m_traps x z) → (j : ℕ) × (Same m k j (m_after P k s0) ⊎ Stopped P s0 m (stack_words i a top) j k) → Come
      go k x z (inl e) (j, inl d) = let w : Ended 0 x j m z = subst (Same m k j) e d in (j, 0, x, w.last, w.comes)
      go k x z (inr e) (j, inl d) = let w : Ended 3 x j m z = subst (Same m k j) e d in (j, 3, x, w.last, w.comes)
      go k x z (inl e) (j, inr o) = (j, 4, 0, o.ended.last, o.ended.comes)
      go k x z (inr e) (j, inr o) = (j, 4, 0, o.ended.last, o.ended.comes)

      from : (k x : ℕ) (z : MSt) → (m_after P k (m_begin P ins) ≡ m_ends x z) ⊎ (m_after P k (m_begin P ins) ≡ m_traps x z) → Come
      from zero x z (inl e) = absurd (let y : ◌≡◌ {A = ℕ} 0 1 = cc in omega arith)
      from zero x z (inr e) = absurd (let y : ◌≡◌ {A = ℕ} 0 1 = cc in omega arith)
      from (suc k) x z (inl e) = go k x z (inl (sym (next k) ∙ e)) (backs.follows k)
      from (suc k) x z (inr e) = go k x z (inr (sym (next k) ∙ e)) (backs.follows k)

  all_right : Right p i a top ins m
  all_right = record { never_faults = backs.never_faults never; shows = shows; follows = follows; outside = backs.outside never; ends = ends; comes_to = comes_to }

-- six words for each byte of the text, which has 32,768 at most
text_short : (t : List ℕ) (p : Prog) → Reads t p → length t ≤ 32768
text_short t p r = leb→le (length t) 32768 (and_0 (leb (length t) 32768) _ r.small)

text_words : (t : List ℕ) (p : Prog) → Reads t p → words costs p ≤ 6 * length t
text_words t p r = words-bound 6 2 costs costs_fair t p r

pub compiled_short : CompiledShort
compiled_short t p r = omega (arith, row-long p, text_words t p r, text_short t p r)

pub compiled_fits : CompiledFits
compiled_fits t p r = (omega (arith, image-long p, text_words t p r), omega (arith, few_noughts p))

pub bare-right : BareRight
bare-right t p reads b a top mem ins m ready =
    let short = compiled_short t p reads in
    let o : ok p ≡ true = is_true (ok p) reads.sound in
    let w : Begins t p reads o b short = begins t p reads o b short in
    all_right p (gen_prog p) (compile p) a top ins m (first_state (gen_prog p) (main_no p) w.F ins) (w.goes_in ins) (mid-holds p o ins) (the_back-end (gen_prog p) (main_no p) w.F w.tame a top mem ins m ready) ready.none_yet

pub compiled_right : CompiledRight
compiled_right t p reads z = bare-right t p reads (bare_low p (omega (arith, z)))

pub compiled_sound : CompiledSound
compiled_sound p = record { fine = subst T (sym (ap (λ b. b && true) (lt-ltb 0 (length (compile p).body) (omega arith)))) tt }
