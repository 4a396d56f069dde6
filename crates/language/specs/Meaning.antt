-- What a program means: a run of main, with words to read, followed to a given depth. Rests on Syntax and Words; every promise about runs rests on this.
use Rattle.std.specs.Prelude.{Bool, true, false, ◌&&◌, ◌||◌, not, List, [], ◌∷◌, ◌++◌, ℕ, zero, suc, ◌+◌, ◌/◌, ◌%◌, length, take, replicate, eqb, ltb, leb}
use Rattle.std.proofs.Math.Option.{Option, some, none}
use Rattle.language.specs.Syntax.{pick, opt, nth, put, Name, same, listed, Expr, num, var, bin, un, and1, or1, idx, len, call, by_table, input, Exprs, no, and_then, Stmt, set1, store1, ex1, out1, if1, while1, ret1, break1, next1, Block, end, seq1, Param, Arr, Fn, Item, i_word, i_arr, i_data, i_table, i_fn, i_use, Prog}
use Rattle.language.specs.Words.{bit, and_w, or_w, xor_w, add, sub, mul, shl, shr}

-- go on with what was found; and, of two findings, the first
abbrev pub on_some : {A C : Type 0} → Option A → (A → Option C) → Option C
on_some none f = none
on_some (some x) f = f x

abbrev pub or_else : {A : Type 0} → Option A → Option A → Option A
or_else none b = b
or_else (some x) b = some x

-- What stands at the top of the files. The words are numbered from 0 over all files in order, and so are the arrays.
pub data Is : Type 0 where
  is_word : ℕ → Is  -- the word with this number
  is_arr : ℕ → Bool → Is  -- the array with this number, of words (true) or of bytes (false)
  is_table : List Name → Is  -- a table of these functions
  is_fn : Fn → Is

pub record Top : Type 0 where
  pub file : Name
  pub name : Name
  pub is : Is

-- what a file declares, if w words and a arrays stand before it; what it uses from other files is not its own
abbrev pub tops : Name → List Item → ℕ → ℕ → List Top
tops f [] w a = []
tops f (i_word x ∷ is) w a = record { file = f; name = x; is = is_word w } ∷ tops f is (w + 1) a
tops f (i_arr r ∷ is) w a = record { file = f; name = r.name; is = is_arr a r.wide } ∷ tops f is w (a + 1)
tops f (i_data d x ns ∷ is) w a = record { file = f; name = x; is = is_arr a d } ∷ tops f is w (a + 1)
tops f (i_table x fs ∷ is) w a = record { file = f; name = x; is = is_table fs } ∷ tops f is w a
tops f (i_fn g ∷ is) w a = record { file = f; name = g.name; is = is_fn g } ∷ tops f is w a
tops f (i_use x ys ∷ is) w a = tops f is w a

-- how many words there are, and the arrays with what they hold at first: noughts, or their values
abbrev pub words_in : List Item → ℕ
words_in [] = 0
words_in (i_word x ∷ is) = 1 + words_in is
words_in (i_arr r ∷ is) = words_in is
words_in (i_data d x ns ∷ is) = words_in is
words_in (i_table x fs ∷ is) = words_in is
words_in (i_fn g ∷ is) = words_in is
words_in (i_use x ys ∷ is) = words_in is

-- an array: whether it is of words, and its elements
pub record Cells : Type 0 where
  pub wide : Bool
  pub cells : List ℕ

abbrev pub arrays_in : List Item → List Cells
arrays_in [] = []
arrays_in (i_word x ∷ is) = arrays_in is
arrays_in (i_arr r ∷ is) = record { wide = r.wide; cells = replicate r.size 0 } ∷ arrays_in is
arrays_in (i_data d x ns ∷ is) = record { wide = d; cells = ns } ∷ arrays_in is
arrays_in (i_table x fs ∷ is) = arrays_in is
arrays_in (i_fn g ∷ is) = arrays_in is
arrays_in (i_use x ys ∷ is) = arrays_in is

-- of all files
abbrev pub all_tops : Prog → ℕ → ℕ → List Top
all_tops [] w a = []
all_tops (f ∷ fs) w a = tops f.name f.items w a ++ all_tops fs (w + words_in f.items) (a + length (arrays_in f.items))

abbrev pub all_words : Prog → ℕ
all_words [] = 0
all_words (f ∷ fs) = words_in f.items + all_words fs

abbrev pub all_arrays : Prog → List Cells
all_arrays [] = []
all_arrays (f ∷ fs) = arrays_in f.items ++ all_arrays fs

-- What a name stands for at the top of a file f: what the file declares, else what it uses from another file.
-- A used name must stand at the top of that other file itself; what that file uses from a third is not looked at.
abbrev pub top_of : List Top → Name → Name → Option Top
top_of [] f x = none
top_of (t ∷ ts) f x = pick (same t.file f && same t.name x) (some t) (top_of ts f x)

-- the file that a name is used from
abbrev pub used_in : List Item → Name → Option Name
used_in [] x = none
used_in (i_use y ys ∷ is) x = pick (listed x ys) (some y) (used_in is x)
used_in (i_word y ∷ is) x = used_in is x
used_in (i_arr r ∷ is) x = used_in is x
used_in (i_data d y ns ∷ is) x = used_in is x
used_in (i_table y fs ∷ is) x = used_in is x
used_in (i_fn g ∷ is) x = used_in is x

abbrev pub items_of : Prog → Name → List Item
items_of [] f = []
items_of (g ∷ gs) f = pick (same g.name f) g.items (items_of gs f)

abbrev pub resolve : Prog → Name → Name → Option Top
resolve p f x =
    or_else (top_of (all_tops p 0 0) f x)
    (on_some (used_in (items_of p f) x) λ g. top_of (all_tops p 0 0) g x)

-- as what is wanted there: a function, a word's number, an array's number, a table's names
abbrev pub as_fn : Top → Option Fn
as_fn t = is1 t.is
  where
    is1 : Is → Option Fn
    is1 (is_word i) = none
    is1 (is_arr a w) = none
    is1 (is_table fs) = none
    is1 (is_fn g) = some g

abbrev pub as_word : Top → Option ℕ
as_word t = is1 t.is
  where
    is1 : Is → Option ℕ
    is1 (is_word i) = some i
    is1 (is_arr a w) = none
    is1 (is_table fs) = none
    is1 (is_fn g) = none

abbrev pub as_arr : Top → Option ℕ
as_arr t = is1 t.is
  where
    is1 : Is → Option ℕ
    is1 (is_word i) = none
    is1 (is_arr a w) = some a
    is1 (is_table fs) = none
    is1 (is_fn g) = none

abbrev pub as_table : Top → Option (List Name)
as_table t = is1 t.is
  where
    is1 : Is → Option (List Name)
    is1 (is_word i) = none
    is1 (is_arr a w) = none
    is1 (is_table fs) = some fs
    is1 (is_fn g) = none

-- a value is a word, or an array by its number
pub data Value : Type 0 where
  word : ℕ → Value
  array : ℕ → Value

-- what a name is bound to in a function
pub record Bind : Type 0 where
  pub name : Name
  pub val : Value

-- when a call began: how many words the open calls asked for, with this one; how many words had been put out; how many were left to read
pub record Mark : Type 0 where
  pub held : ℕ
  pub shown : ℕ
  pub left : ℕ

pub record State : Type 0 where
  pub words : List ℕ  -- those at the top
  pub arrays : List Cells  -- those at the top, then those of the open calls
  pub vars : List Bind  -- the names of the innermost call: parameters, variables, own arrays
  pub ins : List ℕ  -- still to read
  pub outs : List ℕ  -- put out
  pub held : ℕ  -- how many words the open calls ask for
  pub calls : List Mark  -- a mark for every call so far, also for those that ended

pub data Result : Type 0 where
  val : Value → State → Result  -- an expression's value
  vals : List Value → State → Result  -- the values of arguments
  fine : State → Result  -- a statement is done
  broke : State → Result  -- a loop is left
  goes_on : State → Result  -- a loop's next round is wanted
  gives : Value → State → Result  -- a function returns
  trap : ℕ → State → Result  -- 1 a place outside, 2 a division by 0, 3 nothing to read
  spent : State → Result  -- not followed to its end
  wrong : Result  -- nothing is meant

-- What follows a result. Traps and spent runs stay what they are; a result of another sort is wrong there.
-- after an expression
abbrev pub on_val : Result → (Value → State → Result) → Result
on_val (val v s) f = f v s
on_val (vals vs s) f = wrong
on_val (fine s) f = wrong
on_val (broke s) f = wrong
on_val (goes_on s) f = wrong
on_val (gives v s) f = wrong
on_val (trap c s) f = trap c s
on_val (spent s) f = spent s
on_val wrong f = wrong

-- after arguments
abbrev pub on_vals : Result → (List Value → State → Result) → Result
on_vals (val v s) f = wrong
on_vals (vals vs s) f = f vs s
on_vals (fine s) f = wrong
on_vals (broke s) f = wrong
on_vals (goes_on s) f = wrong
on_vals (gives v s) f = wrong
on_vals (trap c s) f = trap c s
on_vals (spent s) f = spent s
on_vals wrong f = wrong

-- after a statement: the rest of the block is passed over by break, continue and return
abbrev pub on_fine : Result → (State → Result) → Result
on_fine (val v s) f = wrong
on_fine (vals vs s) f = wrong
on_fine (fine s) f = f s
on_fine (broke s) f = broke s
on_fine (goes_on s) f = goes_on s
on_fine (gives v s) f = gives v s
on_fine (trap c s) f = trap c s
on_fine (spent s) f = spent s
on_fine wrong f = wrong

-- after a loop's body
abbrev pub on_round : Result → (State → Result) → Result
on_round (val v s) f = wrong
on_round (vals vs s) f = wrong
on_round (fine s) f = f s
on_round (broke s) f = fine s
on_round (goes_on s) f = f s
on_round (gives v s) f = gives v s
on_round (trap c s) f = trap c s
on_round (spent s) f = spent s
on_round wrong f = wrong

-- back from t to the caller's names in s: the function's own arrays are gone, and what it asked for
abbrev pub back : State → State → State
back s t = record {
  words = t.words;
  arrays = take (length s.arrays) t.arrays;
  vars = s.vars;
  ins = t.ins;
  outs = t.outs;
  held = s.held;
  calls = t.calls;
}

-- after a function's body: without return it gives 0
abbrev pub on_end : State → Result → Result
on_end c (val v s) = wrong
on_end c (vals vs s) = wrong
on_end c (fine s) = val (word 0) (back c s)
on_end c (broke s) = wrong
on_end c (goes_on s) = wrong
on_end c (gives v s) = val v (back c s)
on_end c (trap k s) = trap k s
on_end c (spent s) = spent s
on_end c wrong = wrong

-- a value as what is wanted: a word, an array's number
abbrev pub num_of : Value → Option ℕ
num_of (word n) = some n
num_of (array a) = none

abbrev pub arr_of : Value → Option ℕ
arr_of (word n) = none
arr_of (array a) = some a

abbrev pub with_word : Value → (ℕ → Result) → Result
with_word v f = opt (num_of v) wrong f

-- a function's own names: what one is bound to, and bound anew
abbrev pub get_b : List Bind → Name → Option Value
get_b [] x = none
get_b (b ∷ bs) x = pick (same b.name x) (some b.val) (get_b bs x)

abbrev pub set_b : List Bind → Name → Value → List Bind
set_b [] x v = []
set_b (b ∷ bs) x v = pick (same b.name x) (record { name = x; val = v } ∷ bs) (b ∷ set_b bs x v)

-- a state with one part replaced
abbrev pub with_vars : State → List Bind → State
with_vars s bs = record { words = s.words; arrays = s.arrays; vars = bs; ins = s.ins; outs = s.outs; held = s.held; calls = s.calls }

abbrev pub with_words : State → List ℕ → State
with_words s ws = record { words = ws; arrays = s.arrays; vars = s.vars; ins = s.ins; outs = s.outs; held = s.held; calls = s.calls }

abbrev pub with_arrays : State → List Cells → State
with_arrays s as₁ = record { words = s.words; arrays = as₁; vars = s.vars; ins = s.ins; outs = s.outs; held = s.held; calls = s.calls }

abbrev pub with_ins : State → List ℕ → State
with_ins s ns = record { words = s.words; arrays = s.arrays; vars = s.vars; ins = ns; outs = s.outs; held = s.held; calls = s.calls }

abbrev pub with_outs : State → List ℕ → State
with_outs s ns = record { words = s.words; arrays = s.arrays; vars = s.vars; ins = s.ins; outs = ns; held = s.held; calls = s.calls }

-- what a name means in a function of file f: its own, else a word or an array of the top
abbrev pub get_var : Prog → Name → Name → State → Option Value
get_var p f x s =
    or_else (get_b s.vars x)
    (on_some (resolve p f x) λ t.
    or_else (on_some (as_word t) λ i. on_some (nth s.words i) λ n. some (word n))
    (on_some (as_arr t) λ a. some (array a)))

abbrev pub get_arr : Prog → Name → Name → State → Option ℕ
get_arr p f x s = on_some (get_var p f x s) arr_of

-- Operators by their numbers, a number past the table as its last: whether it is a division by 0, which traps; and what is given otherwise.
unfoldable pub div0 : ℕ → ℕ → Bool
div0 o y = (eqb o 3 || eqb o 4) && eqb y 0

unfoldable pub binary : ℕ → ℕ → ℕ → ℕ
binary o x y =
    pick (eqb o 0) (add x y) (
    pick (eqb o 1) (sub x y) (
    pick (eqb o 2) (mul x y) (
    pick (eqb o 3) (x / y) (
    pick (eqb o 4) (x % y) (
    pick (eqb o 5) (bit (eqb x y)) (
    pick (eqb o 6) (bit (not (eqb x y))) (
    pick (eqb o 7) (bit (ltb x y)) (
    pick (eqb o 8) (bit (leb x y)) (
    pick (eqb o 9) (bit (ltb y x)) (
    pick (eqb o 10) (bit (leb y x)) (
    pick (eqb o 11) (and_w x y) (
    pick (eqb o 12) (or_w x y) (
    pick (eqb o 13) (xor_w x y) (
    pick (eqb o 14) (shl x y)
    (shr x y)))))))))))))))

abbrev pub arith : ℕ → ℕ → ℕ → State → Result
arith o x y s = pick (div0 o y) (trap 2 s) (val (word (binary o x y)) s)

unfoldable pub single : ℕ → ℕ → ℕ
single o x =
    pick (eqb o 0) (sub 0 x) (
    pick (eqb o 1) (bit (eqb x 0))
    (sub 4294967295 x))

-- one of two ways on
abbrev pub either : Bool → (State → Result) → (State → Result) → State → Result
either true f g s = f s
either false f g s = g s

-- What a call asks for: 1,024 words; one for each parameter, also for an array, and for each variable; for each own array two and its elements.
abbrev pub names_of : List Arr → ℕ
names_of [] = 0
names_of (a ∷ as₁) = (2 + a.size) + names_of as₁

abbrev pub cost : Fn → ℕ
cost g = 1024 + (length g.params + (length g.vars + names_of g.arrs))

-- A call binds parameters to the arguments, words by value and arrays as themselves; variables are 0; own arrays are added behind the others, all 0.
abbrev pub bind_params : List Param → List Value → List Bind
bind_params [] vs = []
bind_params (q ∷ qs) [] = []
bind_params (q ∷ qs) (v ∷ vs) = record { name = q.name; val = v } ∷ bind_params qs vs

abbrev pub bind_vars : List Name → List Bind
bind_vars [] = []
bind_vars (x ∷ xs) = record { name = x; val = word 0 } ∷ bind_vars xs

abbrev pub bind_arrs : List Arr → ℕ → List Bind
bind_arrs [] n = []
bind_arrs (a ∷ as₁) n = record { name = a.name; val = array n } ∷ bind_arrs as₁ (n + 1)

abbrev pub new_arrs : List Arr → List Cells
new_arrs [] = []
new_arrs (a ∷ as₁) = record { wide = a.wide; cells = replicate a.size 0 } ∷ new_arrs as₁

abbrev pub enter : Fn → List Value → State → State
enter g vs s = record {
  words = s.words;
  arrays = s.arrays ++ new_arrs g.arrs;
  vars = bind_params g.params vs ++ (bind_vars g.vars ++ bind_arrs g.arrs (length s.arrays));
  ins = s.ins;
  outs = s.outs;
  held = s.held + cost g;
  calls = s.calls ++ (record { held = s.held + cost g; shown = length s.outs; left = length s.ins } ∷ []);
}

-- what can be followed in a state
pub data Task : Type 0 where
  t_e : Expr → Task
  t_es : Exprs → List Value → Task  -- arguments, behind these values
  t_s : Stmt → Task
  t_b : Block → Task
  t_call : Fn → List Value → Task

-- the meaning of a task in a file, as what is below it follows it
abbrev pub Go : Type 0
Go = Name → Task → State → Result

-- the next word there is to read; a word put out
abbrev pub reads_from : List ℕ → State → Result
reads_from [] s = trap 3 s
reads_from (n ∷ ns) s = val (word n) (with_ins s ns)

abbrev pub reads : State → Result
reads s = reads_from s.ins s

abbrev pub writes : ℕ → State → State
writes n s = with_outs s (s.outs ++ (n ∷ []))

-- an array's element, looked up and replaced: a place outside is trap 1, a byte array keeps the lowest 8 bits
abbrev pub cell_at : State → ℕ → ℕ → Result
cell_at s a i =
    opt (nth s.arrays a) wrong λ c.
    opt (nth c.cells i) (trap 1 s) λ n.
    val (word n) s

abbrev pub cell_put : State → ℕ → ℕ → ℕ → Result
cell_put s a i n =
    opt (nth s.arrays a) wrong λ c.
    opt (nth c.cells i) (trap 1 s) λ old.
    fine (with_arrays s (put s.arrays a (record { wide = c.wide; cells = put c.cells i (pick c.wide n (n % 256)) })))

-- a function is called by its name in file f; its body is followed in the file that it stands in
abbrev pub calls : Go → Prog → Name → Name → List Value → State → Result
calls go p f x vs s =
    opt (resolve p f x) wrong λ t.
    opt (as_fn t) wrong λ g.
    go t.file (t_call g vs) s

-- whether an expression is other than 0, as 1 or 0
abbrev pub truth : Go → Name → Expr → State → Result
truth go f b s =
    on_val (go f (t_e b) s) λ v s1.
    with_word v λ y.
    val (word (bit (not (eqb y 0)))) s1

-- Expressions. Operands and arguments are worked out from the left; what is right of && and || only if it matters.
-- A place is looked at after its index, a table's number after the arguments.
abbrev pub evals : Go → Prog → Name → Expr → State → Result
evals go p f (num n) s = val (word n) s
evals go p f (var x) s = opt (get_var p f x s) wrong λ v. val v s
evals go p f (bin o a b) s =
    on_val (go f (t_e a) s) λ u s1.
    on_val (go f (t_e b) s1) λ v s2.
    with_word u λ x.
    with_word v λ y.
    arith o x y s2
evals go p f (un o a) s =
    on_val (go f (t_e a) s) λ u s1.
    with_word u λ x.
    val (word (single o x)) s1
evals go p f (and1 a b) s =
    on_val (go f (t_e a) s) λ u s1.
    with_word u λ x.
    either (eqb x 0) (val (word 0)) (truth go f b) s1
evals go p f (or1 a b) s =
    on_val (go f (t_e a) s) λ u s1.
    with_word u λ x.
    either (eqb x 0) (truth go f b) (val (word 1)) s1
evals go p f (idx x e) s =
    on_val (go f (t_e e) s) λ u s1.
    with_word u λ i.
    opt (get_arr p f x s1) wrong λ a.
    cell_at s1 a i
evals go p f (len x) s =
    opt (get_arr p f x s) wrong λ a.
    opt (nth s.arrays a) wrong λ c.
    val (word (length c.cells)) s
evals go p f (call x es) s =
    on_vals (go f (t_es es []) s) λ vs s1.
    calls go p f x vs s1
evals go p f (by_table x e es) s =
    on_val (go f (t_e e) s) λ u s1.
    with_word u λ i.
    on_vals (go f (t_es es []) s1) λ vs s2.
    opt (resolve p f x) wrong λ t.
    opt (as_table t) wrong λ fs.
    opt (nth fs i) (trap 1 s2) λ g.
    calls go p t.file g vs s2
evals go p f input s = reads s

-- arguments, one after another
abbrev pub lists : Go → Name → Exprs → List Value → State → Result
lists go f no vs s = vals vs s
lists go f (and_then e es) vs s =
    on_val (go f (t_e e) s) λ v s1.
    go f (t_es es (vs ++ (v ∷ []))) s1

-- a function's own name is bound anew, else a word of the top is replaced
abbrev pub assigns : Prog → Name → Name → Value → State → Result
assigns p f x v s =
    opt (get_b s.vars x)
    (with_word v λ n. opt (on_some (resolve p f x) as_word) wrong λ i. fine (with_words s (put s.words i n)))
    (λ old. fine (with_vars s (set_b s.vars x v)))

-- Statements. In a[i] = e, i is worked out before e, then the place is looked at.
abbrev pub does : Go → Prog → Name → Stmt → State → Result
does go p f (set1 x e) s =
    on_val (go f (t_e e) s) λ v s1.
    assigns p f x v s1
does go p f (store1 x i e) s =
    on_val (go f (t_e i) s) λ u s1.
    on_val (go f (t_e e) s1) λ v s2.
    with_word u λ j.
    with_word v λ n.
    opt (get_arr p f x s2) wrong λ a.
    cell_put s2 a j n
does go p f (ex1 e) s =
    on_val (go f (t_e e) s) λ v s1.
    fine s1
does go p f (out1 e) s =
    on_val (go f (t_e e) s) λ v s1.
    with_word v λ n.
    fine (writes n s1)
does go p f (if1 e b c) s =
    on_val (go f (t_e e) s) λ v s1.
    with_word v λ n.
    either (eqb n 0) (go f (t_b c)) (go f (t_b b)) s1
does go p f (while1 e b) s =
    on_val (go f (t_e e) s) λ v s1.
    with_word v λ n.
    either (eqb n 0) fine (λ s0. on_round (go f (t_b b) s0) λ s2. go f (t_s (while1 e b)) s2) s1
does go p f (ret1 e) s =
    on_val (go f (t_e e) s) λ v s1.
    gives v s1
does go p f break1 s = broke s
does go p f next1 s = goes_on s

-- statements one after another
abbrev pub runs : Go → Name → Block → State → Result
runs go f end s = fine s
runs go f (seq1 a b) s =
    on_fine (go f (t_s a) s) λ s1.
    go f (t_b b) s1

-- one level of any task
abbrev pub task : Go → Prog → Name → Task → State → Result
task go p f (t_e e) s = evals go p f e s
task go p f (t_es es vs) s = lists go f es vs s
task go p f (t_s a) s = does go p f a s
task go p f (t_b b) s = runs go f b s
task go p f (t_call g vs) s = on_end s (go f (t_b g.body) (enter g vs s))

-- n bounds how deep the meaning is followed: calls, rounds of loops, what stands behind one another; with more, a run that wasn't spent is the same.
abbrev pub run : Prog → ℕ → Go
run p zero f t s = spent s
run p (suc n) f t s = task (λ g u r. run p n g u r) p f t s

-- the letters of main
abbrev pub w_main : Name
w_main = 109 ∷ 97 ∷ 105 ∷ 110 ∷ []

-- at first: words of the top are 0, arrays are 0 or have their values
abbrev pub begin : Prog → List ℕ → State
begin p ins = record {
  words = replicate (all_words p) 0;
  arrays = all_arrays p;
  vars = [];
  ins = ins;
  outs = [];
  held = 0;
  calls = [];
}

abbrev pub first_file : Prog → Name
first_file [] = []
first_file (f ∷ fs) = f.name

-- main is called, of the first file
abbrev pub means : Prog → List ℕ → ℕ → Result
means p ins n = run p n (first_file p) (t_e (call w_main no)) (begin p ins)
