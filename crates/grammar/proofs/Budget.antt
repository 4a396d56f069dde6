-- Frames, images and jumps fit: from the bounds on depth and on words, with the limits that the checks set to each function.
use mathlib.Core.List.{List, [], ◌∷◌}
use Prim.Native.Nat.{ℕ, ◌≤◌}
use native.Mathlib.Omega.{arith}
use lib.ListN.{length}
use lib.Dec.{leb, T, leb→le}
use Rattle.language.specs.Syntax.{Fn, Item, i_word, i_arr, i_data, i_table, i_fn, i_use, Prog}
use Rattle.grammar.specs.Text.{Reads}
use Rattle.grammar.specs.Bounds.{FnsI, AllFns, deep_b}
use Rattle.grammar.specs.Budget.{FramesFit, PlacesFit, ImageFits, JumpsReach}
use Rattle.language.specs.Checks.{ok}
use Rattle.grammar.proofs.PieceKinds.{and_0, and_1}
use Rattle.grammar.proofs.Arity.{all_ok}
use Rattle.grammar.proofs.Depth.{deep-bound}
use Rattle.grammar.proofs.Size.{words-bound}

pub fns-map : (P Q : Fn → Type 0) → ((g : Fn) → P g → Q g) → (is : List Item) → FnsI P is → FnsI Q is
fns-map P Q f [] h = tt
fns-map P Q f (i_word x ∷ is) h = (tt, fns-map P Q f is h.1)
fns-map P Q f (i_arr a ∷ is) h = (tt, fns-map P Q f is h.1)
fns-map P Q f (i_data w x ns ∷ is) h = (tt, fns-map P Q f is h.1)
fns-map P Q f (i_table x fs ∷ is) h = (tt, fns-map P Q f is h.1)
fns-map P Q f (i_fn g ∷ is) h = (f g h.0, fns-map P Q f is h.1)
fns-map P Q f (i_use y xs ∷ is) h = (tt, fns-map P Q f is h.1)

pub all_map : (P Q : Fn → Type 0) → ((g : Fn) → P g → Q g) → (p : Prog) → AllFns p P → AllFns p Q
all_map P Q f [] h = tt
all_map P Q f (x ∷ xs) h = (fns-map P Q f x.items h.0, all_map P Q f xs h.1)

pub frames_do_fit : FramesFit
frames_do_fit t p r = all_map _ _ (λ g h. omega arith) p (deep-bound t p r)

-- what a function has at most
pub record Limits (g : Fn) : Type 0 where
  pub l_params : length g.params ≤ 8
  pub l_vars : length g.vars ≤ 64
  pub l_arrs : length g.arrs ≤ 16

pub limits : (p : Prog) → T (ok p) → AllFns p Limits
limits p = all_ok p Limits (λ f g h.
    let h1 = and_1 (leb (length g.params) 8) _ h in
    let h2 = and_1 (leb (length g.vars) 64) _ h1 in
    record { l_params = leb→le _ 8 (and_0 (leb (length g.params) 8) _ h); l_vars = leb→le _ 64 (and_0 (leb (length g.vars) 64) _ h1); l_arrs = leb→le _ 16 (and_0 (leb (length g.arrs) 16) _ h2) })

pub fns_zip : (P Q : Fn → Type 0) (is : List Item) → FnsI P is → FnsI Q is → FnsI (λ g. P g × Q g) is
fns_zip P Q [] h k = tt
fns_zip P Q (i_word x ∷ is) h k = (tt, fns_zip P Q is h.1 k.1)
fns_zip P Q (i_arr a ∷ is) h k = (tt, fns_zip P Q is h.1 k.1)
fns_zip P Q (i_data w x ns ∷ is) h k = (tt, fns_zip P Q is h.1 k.1)
fns_zip P Q (i_table x fs ∷ is) h k = (tt, fns_zip P Q is h.1 k.1)
fns_zip P Q (i_fn g ∷ is) h k = ((h.0, k.0), fns_zip P Q is h.1 k.1)
fns_zip P Q (i_use y xs ∷ is) h k = (tt, fns_zip P Q is h.1 k.1)

pub all_zip : (P Q : Fn → Type 0) (p : Prog) → AllFns p P → AllFns p Q → AllFns p (λ g. P g × Q g)
all_zip P Q [] h k = tt
all_zip P Q (x ∷ xs) h k = (fns_zip P Q x.items h.0 k.0, all_zip P Q xs h.1 k.1)

pub places-fit : PlacesFit
places-fit t p r = all_map _ _ (λ g h. omega (arith, h.0, h.1)) p (all_zip (λ g. deep_b g.body ≤ 593) Limits p (deep-bound t p r) (limits p r.sound))

short : (t : List ℕ) (p : Prog) → Reads t p → length t ≤ 32768
short t p r = leb→le (length t) 32768 (and_0 (leb (length t) 32768) _ r.small)

pub image-fits : ImageFits
image-fits σ c q t p r = let h = words-bound 7 σ c q t p r in omega arith

pub jumps_do_reach : JumpsReach
jumps_do_reach σ c q t p r = let h = words-bound 7 σ c q t p r in let k = short t p r in omega arith
