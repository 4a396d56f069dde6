-- When a state of the middle language is one of the instructions', and what a write to the frame keeps.
use mathlib.Core.Path.{◌≡◌, refl, sym, ap, ◌∙◌}
use mathlib.Core.Bool.{Bool, true, false, not}
use mathlib.Core.Logic.{◌⊎◌, inl, inr}
use mathlib.Core.List.{List, [], ◌∷◌, ◌++◌}
use mathlib.Core.Option.{Option, some, none}
use Prim.Native.Nat.{ℕ, suc, ◌+◌, ◌-◌, ◌*◌, ◌%◌, ◌≤◌, ◌<◌}
use native.Mathlib.Omega.{arith}
use native.Mathlib.Decide.{ℕ_discrete}
use lib.ListN.{length}
use lib.Dec.{eqb}
use borrow.Author.Tests.{eqb-true, eqb-false}
use Rattle.language.specs.Syntax.{pick, opt, nth, put}
use Rattle.language.specs.Words.{all}
use Rattle.language.specs.Meaning.{Mark}
use Rattle.lower.specs.Promise.{Among, first, later}
use Rattle.steps.specs.Steps.{s_ret, MFn, MProg, MSt, Saved, Places, upd, MNext, m_goes, m_ends, m_traps, m_stuck, to}
use Rattle.lower.specs.Lower.{lens, area, begin_of, tlens, tab_size, plens, live_of, data_words, fun_of, slots, frame_size}
use Rattle.lower.proofs.Lists.{length-put, nth_low, nth-put-same, nth-put-other}
use Rattle.lower.proofs.Instructions.{Env, V, l_sw, l_ecall, Steps, Some, address}
use Rattle.lower.proofs.InRow.{Laid}
use Rattle.lower.proofs.TopArrays.{row_by, row-long}

-- the words of the tables stand at the end of the code's part
abbrev pub Tabs : MProg → (ℕ → ℕ) → List ℕ → ℕ → Type 0
Tabs m en code fl = (t x h : ℕ) (hs : List ℕ) → nth m.tables t ≡ some hs → nth hs x ≡ some h → nth code ((length code - tab_size m) + (begin_of (tlens m.tables) t + x)) ≡ some ((all - 4 * ((length code + fl) - en h)) % all)

pub record Ctx : Type 0 where
  pub env : Env
  pub prog : MProg
  pub entry : ℕ → ℕ
  pub at : ℕ → ℕ → ℕ
  pub exit : ℕ
  pub floor_is : env.floor ≡ data_words prog
  pub tabs_in : tab_size prog ≤ length env.code
  pub tabs : Tabs prog entry env.code env.floor
  pub laid : Laid prog env.row entry at exit
  -- the function that called the main one ends with what it gave
  pub boot : MFn
  pub is_boot : nth prog.funs 0 ≡ some boot
  pub boot_ends : nth boot.code 1 ≡ some (s_ret 0)

-- a frame that begins at b: behind the return address its places, of which those that hold nothing may have anything
abbrev pub Frame : List ℕ → ℕ → Places → Type 0
Frame cells b ps = (i x : ℕ) → ps i ≡ some x → (nth cells (b + suc i) ≡ some x) × (x < all)

abbrev pub Globals : List ℕ → List ℕ → Type 0
Globals cells ws = (i x : ℕ) → nth ws i ≡ some x → (nth cells i ≡ some x) × (x < all)

-- the frame at b is f's, and v called it, when the open calls asked for what they ask now but for f's part
pub record Kept (c : Ctx) (cells : List ℕ) (b : ℕ) (f : MFn) (held : ℕ) (v : Saved) : Type 0 where
  pub from : MFn
  pub is_fn : fun_of c.prog v.act.fn ≡ some from
  pub back : ℕ
  pub ra : nth cells b ≡ some (address c.env back)
  pub takes : nth c.env.row back ≡ some (l_sw 10 (suc v.dest))
  pub goes_on : suc back ≡ c.at v.act.fn v.pc
  pub frame : Frame cells (b + frame_size f) v.places
  pub dest_in : v.dest < slots from
  pub asked : c.env.total ≤ (b + frame_size f) + (held - f.cost)

-- the frame at b is the main function's
pub record Last (c : Ctx) (cells : List ℕ) (b : ℕ) (f : MFn) (v : Saved) : Type 0 where
  pub ra : nth cells b ≡ some (address c.env c.exit)
  pub is_fn : v.act.fn ≡ 0
  pub is_pc : v.pc ≡ 1
  pub is_dest : v.dest ≡ 0
  pub ends : b + frame_size f ≡ c.env.total

pub data Rets (c : Ctx) (cells : List ℕ) : ℕ → MFn → ℕ → List Saved → Type 0 where
  last : {b : ℕ} {f : MFn} {held : ℕ} {v : Saved} → Last c cells b f v → Rets c cells b f held (v ∷ [])
  more : {b : ℕ} {f : MFn} {held : ℕ} {v : Saved} {vs : List Saved} (k : Kept c cells b f held v) → Rets c cells (b + frame_size f) k.from (held - f.cost) vs → Rets c cells b f held (v ∷ vs)

pub record Match (c : Ctx) (s : MSt) (v : V) : Type 0 where
  pub f : MFn
  pub is_fn : fun_of c.prog s.act.fn ≡ some f
  pub is_pc : v.pc ≡ c.at s.act.fn s.pc
  pub frame : Frame v.cells v.sp s.places
  pub rets : Rets c v.cells v.sp f s.held s.stack
  pub words : Globals v.cells (row_by (live_of c.prog) s.words s.arrays)
  pub words_in : length s.words ≡ c.prog.words
  -- the arrays are as long as they were at first
  pub shape : lens s.arrays ≡ lens c.prog.arrays
  pub ins_small : (j x : ℕ) → nth s.ins j ≡ some x → x < all
  pub above : c.env.floor ≤ v.sp
  pub is_ins : v.ins ≡ s.ins
  pub is_outs : v.outs ≡ s.outs
  -- the open frames have no more words than the calls ask for
  pub asked : c.env.total ≤ v.sp + s.held
  pub long : length v.cells ≡ c.env.total

-- an end by an environment call
pub record Halts (c : Ctx) (n x : ℕ) (s : MSt) (v : V) : Type 0 where
  pub calls : nth c.env.row v.pc ≡ some l_ecall
  pub number : v.r 17 ≡ n
  pub with : v.r 10 ≡ x
  pub is_ins : v.ins ≡ s.ins
  pub is_outs : v.outs ≡ s.outs

abbrev pub mark_of : MSt → Mark
mark_of s = record { held = s.held; shown = length s.outs; left = length s.ins }

pub among_last : (ms : List Mark) (m : Mark) → Among m (ms ++ (m ∷ []))
among_last [] m = first
among_last (n ∷ ms) m = later (among_last ms m)

-- no room: the open calls, with the one that begins, ask for more than there is
pub record Full (c : Ctx) (s : MSt) (v : V) : Type 0 where
  pub calls : nth c.env.row v.pc ≡ some l_ecall
  pub number : v.r 17 ≡ 4
  pub is_ins : v.ins ≡ s.ins
  pub is_outs : v.outs ≡ s.outs
  pub short : c.env.total - c.env.floor < s.held
  -- the call that begins has left its mark
  pub marked : Among (mark_of s) s.calls

-- the main function has come back
pub record Over (c : Ctx) (s : MSt) (v : V) : Type 0 where
  pub x : ℕ
  pub is_fn : s.act.fn ≡ 0
  pub is_pc : s.pc ≡ 1
  pub is_stack : s.stack ≡ []
  pub is_place : s.places 0 ≡ some x
  pub at_exit : v.pc ≡ c.exit
  pub with : v.r 10 ≡ x
  pub is_ins : v.ins ≡ s.ins
  pub is_outs : v.outs ≡ s.outs

pub data Now (c : Ctx) (s : MSt) (v : V) : Type 0 where
  inside : Match c s v → Now c s v
  over : Over c s v → Now c s v
  full : Full c s v → Now c s v

abbrev pub Does : Ctx → V → MNext → Type 0
Does c v (m_goes s) = (w : V) × Some c.env w v × Now c s w
Does c v (m_ends x s) = (w : V) × Steps c.env w v × Halts c 0 x s w
Does c v (m_traps k s) = (w : V) × Steps c.env w v × Halts c 3 k s w
Does c v m_stuck = Unit {0}

-- cases
pub by-opt : {A : Type 0} (P : MNext → Type 0) (o : Option A) (f : A → MNext) → P m_stuck → ((x : A) → o ≡ some x → P (f x)) → P (opt o m_stuck f)
by-opt P none f n g = n
by-opt P (some x) f n g = g x refl

pub nth_or : {A : Type 0} (xs : List A) (i j : ℕ) (v x : A) → nth (put xs i v) j ≡ some x → ((j ≡ i) × (x ≡ v)) ⊎ ((i ≡ j → ⊥) × (nth xs j ≡ some x))
nth_or xs i j v x h = go (ℕ_discrete i j)
  where
    go : Dec (i ≡ j) → ((j ≡ i) × (x ≡ v)) ⊎ ((i ≡ j → ⊥) × (nth xs j ≡ some x))
    go (yes e) = inl (sym e, let k : nth (put xs j v) j ≡ some x = rw e at h in let l : j < length (put xs j v) = nth_low (put xs j v) j x k in let q : nth (put xs j v) j ≡ some v = nth-put-same xs j v (omega (arith, length-put xs j v)) in cc)
    go (no n) = inr (n, sym (nth-put-other xs i j v n) ∙ h)

-- rows of cells that agree from some place on
pub frame_same : (cs ds : List ℕ) (b : ℕ) (ps : Places) → ((i : ℕ) → b < i → nth ds i ≡ nth cs i) → Frame cs b ps → Frame ds b ps
frame_same cs ds b ps a f i x h = let (k, l) = f i x h in (a (b + suc i) (omega arith) ∙ k, l)

pub frame-put : (cs : List ℕ) (b d x : ℕ) (ps : Places) → b + suc d < length cs → x < all → Frame cs b ps → Frame (put cs (b + suc d) x) b (upd ps d x)
unfolding upd
frame-put cs b d x ps k l f i y h = go (eqb i d) refl h
  where
    go : (t : Bool) → eqb i d ≡ t → pick t (some x) (ps i) ≡ some y → (nth (put cs (b + suc d) x) (b + suc i) ≡ some y) × (y < all)
    go true e g = let q : y ≡ x = cc in let z : i ≡ d = eqb-true i d e in rw (z, q) (nth-put-same cs (b + suc d) x k, l)
    go false e g = let n : i ≡ d → ⊥ = eqb-false i d e in let (p, q) = f i y g in (nth-put-other cs (b + suc d) (b + suc i) x (omega arith) ∙ p, q)

pub rets-same : (c : Ctx) (cs ds : List ℕ) {b : ℕ} {f : MFn} {held : ℕ} {vs : List Saved} → ((i : ℕ) → (i ≡ b) ⊎ (b + slots f < i) → nth ds i ≡ nth cs i) → Rets c cs b f held vs → Rets c ds b f held vs
rets-same c cs ds {b = b} a (last h) = last (record { ra = a b (inl refl) ∙ h.ra; is_fn = h.is_fn; is_pc = h.is_pc; is_dest = h.is_dest; ends = h.ends })
rets-same c cs ds {b = b} {f = f} a (more {v = v} h k) =
    more (record { from = h.from; is_fn = h.is_fn; back = h.back; ra = a b (inl refl) ∙ h.ra; takes = h.takes; goes_on = h.goes_on; frame = frame_same cs ds (b + frame_size f) v.places (λ i l. a i (inr (omega arith))) h.frame; dest_in = h.dest_in; asked = h.asked }) (rets-same c cs ds (λ i l. a i (inr (omega arith))) k)

pub rets_in : (c : Ctx) (cs : List ℕ) {b : ℕ} {f : MFn} {held : ℕ} {vs : List Saved} → Rets c cs b f held vs → b + frame_size f ≤ c.env.total
rets_in c cs (last h) = omega (arith, h.ends)
rets_in c cs (more h k) = omega (arith, rets_in c cs k)

pub globals_same : (cs ds ws : List ℕ) (n : ℕ) → length ws ≤ n → ((i : ℕ) → i < n → nth ds i ≡ nth cs i) → Globals cs ws → Globals ds ws
globals_same cs ds ws n l a g i x h = let k : i < length ws = nth_low ws i x h in let (p, q) = g i x h in (a i (omega arith) ∙ p, q)

pub globals_put : (cs ws : List ℕ) (j x : ℕ) → j < length cs → x < all → Globals cs ws → Globals (put cs j x) (put ws j x)
globals_put cs ws j x k l g i y h = go (nth_or ws j i x y h)
  where
    go : ((i ≡ j) × (y ≡ x)) ⊎ ((j ≡ i → ⊥) × (nth ws i ≡ some y)) → (nth (put cs j x) i ≡ some y) × (y < all)
    go (inl (e, q)) = rw (e, q) (nth-put-same cs j x k, l)
    go (inr (n, q)) = let (a, b) = g i y q in (nth-put-other cs j i x n ∙ a, b)

-- words and arrays fill the image's noughts
pub globals_in : (c : Ctx) (s : MSt) (v : V) → Match c s v → length (row_by (live_of c.prog) s.words s.arrays) ≤ c.env.floor
globals_in c s v h = omega (arith, row-long (live_of c.prog) s.words s.arrays, ap (λ l. area (plens (live_of c.prog) l)) h.shape, ap (λ l. area (plens (λ i. not (live_of c.prog i)) l)) h.shape, h.words_in, c.floor_is)

-- a place of the frame is written, and control is behind the step
abbrev pub stored_in : V → (ℕ → ℕ) → ℕ → ℕ → ℕ → V
stored_in v r p d x = record { r = r; sp = v.sp; pc = p; cells = put v.cells (v.sp + suc d) x; ins = v.ins; outs = v.outs }

pub in_room : (c : Ctx) (s : MSt) (v : V) (h : Match c s v) (d : ℕ) → d < slots h.f → v.sp + suc d < c.env.total
in_room c s v h d k = omega (arith, rets_in c v.cells h.rets)

pub stored_match : (c : Ctx) (s : MSt) (v : V) (h : Match c s v) (r : ℕ → ℕ) (p d x t : ℕ) → d < slots h.f → x < all → p ≡ c.at s.act.fn t → Match c (to s t (upd s.places d x)) (stored_in v r p d x)
stored_match c s v h r p d x t k l q =
    let z : v.sp + suc d < c.env.total = in_room c s v h d k in
    record {
      f = h.f;
      is_fn = h.is_fn;
      is_pc = q;
      frame = frame-put v.cells v.sp d x s.places (omega (arith, h.long)) l h.frame;
      rets = rets-same c v.cells (put v.cells (v.sp + suc d) x) (λ i o. nth-put-other v.cells (v.sp + suc d) i x (omega arith)) h.rets;
      words = globals_same v.cells (put v.cells (v.sp + suc d) x) (row_by (live_of c.prog) s.words s.arrays) c.env.floor (globals_in c s v h) (λ i o. nth-put-other v.cells (v.sp + suc d) i x (omega (arith, h.above))) h.words;
      words_in = h.words_in;
      shape = h.shape;
      ins_small = h.ins_small;
      above = h.above;
      is_ins = h.is_ins;
      is_outs = h.is_outs;
      asked = h.asked;
      long = length-put v.cells (v.sp + suc d) x ∙ h.long;
    }
