-- What is proved of the compiled image of every text's program.
use Rattle.std.specs.Prelude.{◌≡◌, List, [], ℕ, ◌+◌, ◌*◌, ◌≤◌, ◌<◌, length}
use Rattle.language.specs.Syntax.{Fn, Item, i_word, i_arr, i_data, i_table, i_fn, i_use, Prog, stage}
use Rattle.language.specs.Checks.{totals}
use Rattle.language.specs.Meaning.{all_words}
use Rattle.grammar.specs.Text.{Reads}
use Rattle.image.specs.Image.{row, Sound}
use Rattle.steps.specs.Generate.{arrays_of, slots_from, gen_prog}
use Rattle.steps.specs.Fits.{Each}
use Rattle.lower.specs.Lower.{main_no, row_of, compile}
use Rattle.lower.specs.Promise.{landed, RunsRight}

-- wherever it is loaded, the image does what the program means
abbrev pub CompiledRight : Type 0
CompiledRight = (t : List ℕ) (p : Prog) → Reads t p → stage p ≤ landed → RunsRight p (compile p)

abbrev pub CompiledSound : Type 0
CompiledSound = (p : Prog) → Sound (compile p)

-- it is no longer than is promised, and has no more noughts
abbrev pub CompiledFits : Type 0
CompiledFits = (t : List ℕ) (p : Prog) → Reads t p → (length (row (compile p)) ≤ 4096 + 8 * length t) × ((compile p).noughts ≤ 4096 + (all_words p + totals p))

-- all code is in reach of a jump
abbrev pub CompiledShort : Type 0
CompiledShort = (t : List ℕ) (p : Prog) → Reads t p → length (row_of (gen_prog p) (main_no p)) < 262144

-- programs of all stages whose functions have no arrays: neither as parameters nor of their own
abbrev pub BareFn : Fn → Type 0
BareFn g = (arrays_of (slots_from g.params [] []) ≡ 0) × (g.arrs ≡ [])

abbrev pub BareI : Item → Type 0
BareI (i_word x) = Unit {0}
BareI (i_arr a) = Unit {0}
BareI (i_data w x ns) = Unit {0}
BareI (i_table x fs) = Unit {0}
BareI (i_fn g) = BareFn g
BareI (i_use x ys) = Unit {0}

abbrev pub Bare : Prog → Type 0
Bare p = Each (λ f. Each BareI f.items) p

-- the lowering is right for these already; all of stages 0 and 1 are such
abbrev pub BareRight : Type 0
BareRight = (t : List ℕ) (p : Prog) → Reads t p → Bare p → RunsRight p (compile p)
