-- The middle language: a function's code is a row of steps over numbered places.
use Rattle.std.specs.Prelude.{ℕ, zero, suc, ◌+◌, ◌-◌, ◌%◌, Bool, not, List, [], ◌∷◌, ◌++◌, length, take, replicate, ◌==◌}
use Rattle.std.proofs.Math.Option.{Option, some, none}
use Rattle.language.specs.Syntax.{pick, opt, nth, put}
use Rattle.language.specs.Words.{bit}
use Rattle.language.specs.Meaning.{on_some, Mark, Cells, div0, binary, single}

-- an array: one at the top, by its number, or one of the function's array places
pub data Opnd : Type 0 where
  o_top : ℕ → Opnd
  o_own : ℕ → Opnd

pub data Step : Type 0 where
  s_num : ℕ → ℕ → Step
  s_copy : ℕ → ℕ → Step
  s_bin : ℕ → ℕ → ℕ → ℕ → Step
  s_un : ℕ → ℕ → ℕ → Step
  -- 1 where the place holds no 0
  s_flag : ℕ → ℕ → Step
  s_getw : ℕ → ℕ → Step
  s_setw : ℕ → ℕ → Step
  s_jump : ℕ → Step
  s_jz : ℕ → ℕ → Step
  -- result's place, function, first of the words' places, how many words, arrays
  s_call : ℕ → ℕ → ℕ → ℕ → List Opnd → Step
  -- result's place, the place with the number in the table, table, and the same
  s_table : ℕ → ℕ → ℕ → ℕ → ℕ → List Opnd → Step
  s_out : ℕ → Step
  s_ret : ℕ → Step
  s_in : ℕ → Step
  s_idx : ℕ → Opnd → ℕ → Step
  -- of words (true) or bytes
  s_put : Bool → Opnd → ℕ → ℕ → Step
  s_len : ℕ → Opnd → Step

pub record Shape : Type 0 where
  pub wide : Bool
  pub size : ℕ

-- places: the parameters that are words, the variables, the rest; array places: the parameters that are arrays, the own ones
pub record MFn : Type 0 where
  pub params : ℕ
  pub arrays : ℕ
  pub vars : ℕ
  pub own : List Shape
  -- how many places in all
  pub places : ℕ
  pub cost : ℕ
  pub code : List Step

pub record MProg : Type 0 where
  pub funs : List MFn
  pub tables : List (List ℕ)
  pub words : ℕ
  pub arrays : List Cells

-- what each place holds, if anything
abbrev pub Places : Type 0
Places = ℕ → Option ℕ

unfoldable pub upd : Places → ℕ → ℕ → Places
upd ps d x i = pick (i == d) (some x) (ps i)

-- a function at work, with the numbers of the arrays of its array places
pub record Act : Type 0 where
  pub fn : ℕ
  pub arrs : List ℕ

pub record Saved : Type 0 where
  pub act : Act
  pub pc : ℕ
  pub places : Places
  pub dest : ℕ

pub record MSt : Type 0 where
  pub act : Act
  pub pc : ℕ
  pub places : Places
  pub stack : List Saved
  pub words : List ℕ
  pub arrays : List Cells
  pub ins : List ℕ
  pub outs : List ℕ
  pub held : ℕ
  pub calls : List Mark

pub data MNext : Type 0 where
  m_goes : MSt → MNext
  m_ends : ℕ → MSt → MNext
  m_traps : ℕ → MSt → MNext
  m_stuck : MNext

-- on to step pc, with these places
abbrev pub to : MSt → ℕ → Places → MSt
to m pc ps = record { act = m.act; pc = pc; places = ps; stack = m.stack; words = m.words; arrays = m.arrays; ins = m.ins; outs = m.outs; held = m.held; calls = m.calls }

-- n places from k on
abbrev pub args : Places → ℕ → ℕ → Option (List ℕ)
args ps k zero = some []
args ps k (suc n) = on_some (ps k) (λ x. on_some (args ps (suc k) n) (λ xs. some (x ∷ xs)))

-- which array
abbrev pub arr_at : List ℕ → Opnd → Option ℕ
arr_at as₁ (o_top a) = some a
arr_at as₁ (o_own j) = nth as₁ j

abbrev pub arrs_at : List ℕ → List Opnd → Option (List ℕ)
arrs_at as₁ [] = some []
arrs_at as₁ (o ∷ os) = on_some (arr_at as₁ o) (λ a. on_some (arrs_at as₁ os) (λ xs. some (a ∷ xs)))

abbrev pub entry : MFn → List ℕ → Places
entry g xs = nth (xs ++ replicate g.vars 0)

abbrev pub fresh : List Shape → List Cells
fresh [] = []
fresh (z ∷ zs) = record { wide = z.wide; cells = replicate z.size 0 } ∷ fresh zs

abbrev pub upto : ℕ → List Shape → List ℕ
upto n [] = []
upto n (z ∷ zs) = n ∷ upto (n + 1) zs

abbrev pub enters : MFn → ℕ → ℕ → List ℕ → List ℕ → MSt → MSt
enters h g d xs as₁ m = record {
  act = record { fn = g; arrs = as₁ ++ upto (length m.arrays) h.own };
  pc = 0;
  places = entry h xs;
  stack = record { act = m.act; pc = suc m.pc; places = m.places; dest = d } ∷ m.stack;
  words = m.words;
  arrays = m.arrays ++ fresh h.own;
  ins = m.ins;
  outs = m.outs;
  held = m.held + h.cost;
  calls = m.calls ++ (record { held = m.held + h.cost; shown = length m.outs; left = length m.ins } ∷ []);
}

abbrev pub leaves : MFn → ℕ → List Saved → MSt → MNext
leaves g x [] m = m_ends x m
leaves g x (f ∷ fs) m = m_goes (record {
  act = f.act;
  pc = f.pc;
  places = upd f.places f.dest x;
  stack = fs;
  words = m.words;
  arrays = take (length m.arrays - length g.own) m.arrays;
  ins = m.ins;
  outs = m.outs;
  held = m.held - g.cost;
  calls = m.calls;
})

abbrev pub with_place : MSt → ℕ → (ℕ → MNext) → MNext
with_place m a f = opt (m.places a) m_stuck f

abbrev pub with_array : MSt → Opnd → (ℕ → Cells → MNext) → MNext
with_array m o f = opt (arr_at m.act.arrs o) m_stuck (λ a. opt (nth m.arrays a) m_stuck (λ c. f a c))

abbrev pub reads_in : ℕ → List ℕ → MSt → MNext
reads_in d [] m = m_traps 3 m
reads_in d (x ∷ xs) m = m_goes (record {
  act = m.act;
  pc = suc m.pc;
  places = upd m.places d x;
  stack = m.stack;
  words = m.words;
  arrays = m.arrays;
  ins = xs;
  outs = m.outs;
  held = m.held;
  calls = m.calls;
})

abbrev pub exec : MProg → MFn → Step → MSt → MNext
exec p g (s_num d n) m = m_goes (to m (suc m.pc) (upd m.places d n))
exec p g (s_copy d a) m = with_place m a (λ x. m_goes (to m (suc m.pc) (upd m.places d x)))
exec p g (s_bin o d a b) m = with_place m a (λ x. with_place m b (λ y. pick (div0 o y) (m_traps 2 m) (m_goes (to m (suc m.pc) (upd m.places d (binary o x y))))))
exec p g (s_un o d a) m = with_place m a (λ x. m_goes (to m (suc m.pc) (upd m.places d (single o x))))
exec p g (s_flag d a) m = with_place m a (λ x. m_goes (to m (suc m.pc) (upd m.places d (bit (not (x == 0))))))
exec p g (s_getw d i) m = opt (nth m.words i) m_stuck (λ x. m_goes (to m (suc m.pc) (upd m.places d x)))
exec p g (s_setw i a) m = with_place m a (λ x. m_goes (record { act = m.act; pc = suc m.pc; places = m.places; stack = m.stack; words = put m.words i x; arrays = m.arrays; ins = m.ins; outs = m.outs; held = m.held; calls = m.calls }))
exec p g (s_jump t) m = m_goes (to m t m.places)
exec p g (s_jz a t) m = with_place m a (λ x. m_goes (to m (pick (x == 0) t (suc m.pc)) m.places))
exec p g (s_call d h k n os) m = opt (nth p.funs h) m_stuck (λ f. opt (args m.places k n) m_stuck (λ xs. opt (arrs_at m.act.arrs os) m_stuck (λ as₁. m_goes (enters f h d xs as₁ m))))
exec p g (s_table d i t k n os) m = with_place m i (λ x. opt (nth p.tables t) m_stuck (λ hs. opt (nth hs x) (m_traps 1 m) (λ h. opt (nth p.funs h) m_stuck (λ f. opt (args m.places k n) m_stuck (λ xs. opt (arrs_at m.act.arrs os) m_stuck (λ as₁. m_goes (enters f h d xs as₁ m)))))))
exec p g (s_out a) m = with_place m a (λ x. m_goes (record { act = m.act; pc = suc m.pc; places = m.places; stack = m.stack; words = m.words; arrays = m.arrays; ins = m.ins; outs = m.outs ++ (x ∷ []); held = m.held; calls = m.calls }))
exec p g (s_ret a) m = with_place m a (λ x. leaves g x m.stack m)
exec p g (s_in d) m = reads_in d m.ins m
exec p g (s_idx d r a) m = with_place m a (λ i. with_array m r (λ u c. opt (nth c.cells i) (m_traps 1 m) (λ x. m_goes (to m (suc m.pc) (upd m.places d x)))))
exec p g (s_put w r a b) m = with_place m a (λ i. with_place m b (λ n. with_array m r (λ u c. opt (nth c.cells i) (m_traps 1 m) (λ old. m_goes (record { act = m.act; pc = suc m.pc; places = m.places; stack = m.stack; words = m.words; arrays = put m.arrays u (record { wide = c.wide; cells = put c.cells i (pick w n (n % 256)) }); ins = m.ins; outs = m.outs; held = m.held; calls = m.calls })))))
exec p g (s_len d r) m = with_array m r (λ u c. m_goes (to m (suc m.pc) (upd m.places d (length c.cells))))

abbrev pub m_step : MProg → MSt → MNext
m_step p m = opt (nth p.funs m.act.fn) m_stuck (λ g. opt (nth g.code m.pc) m_stuck (λ c. exec p g c m))

abbrev pub m_then : MNext → (MSt → MNext) → MNext
m_then (m_goes m) f = f m
m_then (m_ends x m) f = m_ends x m
m_then (m_traps c m) f = m_traps c m
m_then m_stuck f = m_stuck

abbrev pub m_after : MProg → ℕ → MSt → MNext
m_after p zero m = m_goes m
m_after p (suc k) m = m_then (m_step p m) (λ x. m_after p k x)

-- how a run begins, and what it has shown
abbrev pub m_begin : MProg → List ℕ → MSt
m_begin p ins = record {
  act = record { fn = 0; arrs = [] };
  pc = 0;
  places = λ i. none;
  stack = [];
  words = replicate p.words 0;
  arrays = p.arrays;
  ins = ins;
  outs = [];
  held = 0;
  calls = [];
}

abbrev pub m_shown : MNext → List ℕ
m_shown (m_goes m) = m.outs
m_shown (m_ends x m) = m.outs
m_shown (m_traps c m) = m.outs
m_shown m_stuck = []
