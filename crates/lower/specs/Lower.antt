-- From steps to instructions, and to an image.
use Rattle.std.specs.Prelude.{Bool, true, false, not, List, [], ◌∷◌, ◌++◌, ℕ, zero, suc, ◌+◌, ◌-◌, ◌*◌, ◌/◌, ◌%◌, length, eqb, ltb, leb}
use Rattle.std.proofs.Math.Option.{Option, none}
use Rattle.language.specs.Syntax.{pick, opt, nth, Prog}
use Rattle.language.specs.Words.{all, bit, and_w, or_w, xor_w, add, sub, mul, shl, shr}
use Rattle.language.specs.Meaning.{Cells, first_file, w_main}
use Rattle.image.specs.Image.{Image}
use Rattle.steps.specs.Steps.{Step, s_num, s_copy, s_bin, s_un, s_flag, s_getw, s_setw, s_jump, s_jz, s_call, s_out, s_ret, s_table, s_in, s_idx, s_put, s_len, o_top, o_own, MFn, MProg}
use Rattle.steps.specs.Generate.{fn_no, gen_prog}
use Rattle.processor.specs.Instr.{encode}
use Rattle.processor.specs.declared.instr.Imm.TheVariants.{Addi, Sltiu, Xori, Andi}
use Rattle.processor.specs.declared.instr.Alu.TheVariants.{Add, Sub, Sll, Sltu, Xor, Srl, Or, And}
use Rattle.processor.specs.declared.instr.Prod.TheVariants.{Mul, Divu, Remu}
use Rattle.lower.specs.Code.{LI, l_lw, l_sw, l_num, l_lui, l_alui, l_alu, l_bnz, l_mul, l_bge, l_j, l_jal, l_ret, l_callr, l_sp, l_room, l_downr, l_upr, l_ecall, l_addg, l_lwr, l_swr, to_real}

pub data Op : Type 0 where
  o_add o_sub o_mul o_div o_rem o_eq o_ne o_lt o_le o_gt o_ge o_and o_or o_xor o_shl o_shr : Op

pub data Op1 : Type 0 where
  -- u_flag: 1 unless it is 0
  u_neg u_not u_inv u_flag : Op1

-- the operators, but for a division by nought
abbrev pub bin_of : Op → ℕ → ℕ → ℕ
bin_of o_add x y = add x y
bin_of o_sub x y = sub x y
bin_of o_mul x y = mul x y
bin_of o_div x y = x / y
bin_of o_rem x y = x % y
bin_of o_eq x y = bit (eqb x y)
bin_of o_ne x y = bit (not (eqb x y))
bin_of o_lt x y = bit (ltb x y)
bin_of o_le x y = bit (leb x y)
bin_of o_gt x y = bit (ltb y x)
bin_of o_ge x y = bit (leb y x)
bin_of o_and x y = and_w x y
bin_of o_or x y = or_w x y
bin_of o_xor x y = xor_w x y
bin_of o_shl x y = shl x y
bin_of o_shr x y = shr x y

abbrev pub no_bin : Op → ℕ → Bool
no_bin o_add y = false
no_bin o_sub y = false
no_bin o_mul y = false
no_bin o_div y = eqb y 0
no_bin o_rem y = eqb y 0
no_bin o_eq y = false
no_bin o_ne y = false
no_bin o_lt y = false
no_bin o_le y = false
no_bin o_gt y = false
no_bin o_ge y = false
no_bin o_and y = false
no_bin o_or y = false
no_bin o_xor y = false
no_bin o_shl y = false
no_bin o_shr y = false

abbrev pub un_of : Op1 → ℕ → ℕ
un_of u_neg x = sub 0 x
un_of u_not x = bit (eqb x 0)
un_of u_inv x = sub 4294967295 x
un_of u_flag x = bit (not (eqb x 0))

-- by their numbers
abbrev pub op_of : ℕ → Op
op_of o = pick (eqb o 0) o_add (pick (eqb o 1) o_sub (pick (eqb o 2) o_mul (pick (eqb o 3) o_div (pick (eqb o 4) o_rem (pick (eqb o 5) o_eq (pick (eqb o 6) o_ne (pick (eqb o 7) o_lt (pick (eqb o 8) o_le (pick (eqb o 9) o_gt (pick (eqb o 10) o_ge (pick (eqb o 11) o_and (pick (eqb o 12) o_or (pick (eqb o 13) o_xor (pick (eqb o 14) o_shl o_shr))))))))))))))

abbrev pub op1_of : ℕ → Op1
op1_of o = pick (eqb o 0) u_neg (pick (eqb o 1) u_not u_inv)

-- register 7 from 5 and 6, at place p
abbrev pub ops : ℕ → Op → List LI
ops p o_add = l_alu Add 7 5 6 ∷ []
ops p o_sub = l_alu Sub 7 5 6 ∷ []
ops p o_mul = l_mul Mul 7 5 6 ∷ []
ops p o_div = l_bnz 6 (suc (suc (suc (suc p)))) ∷ l_num 10 2 ∷ l_num 17 3 ∷ l_ecall ∷ l_mul Divu 7 5 6 ∷ []
ops p o_rem = l_bnz 6 (suc (suc (suc (suc p)))) ∷ l_num 10 2 ∷ l_num 17 3 ∷ l_ecall ∷ l_mul Remu 7 5 6 ∷ []
ops p o_eq = l_alu Sub 7 5 6 ∷ l_alui Sltiu 7 7 1 ∷ []
ops p o_ne = l_alu Sub 7 5 6 ∷ l_alui Sltiu 7 7 1 ∷ l_alui Xori 7 7 1 ∷ []
ops p o_lt = l_alu Sltu 7 5 6 ∷ []
ops p o_le = l_alu Sltu 7 6 5 ∷ l_alui Xori 7 7 1 ∷ []
ops p o_gt = l_alu Sltu 7 6 5 ∷ []
ops p o_ge = l_alu Sltu 7 5 6 ∷ l_alui Xori 7 7 1 ∷ []
ops p o_and = l_alu And 7 5 6 ∷ []
ops p o_or = l_alu Or 7 5 6 ∷ []
ops p o_xor = l_alu Xor 7 5 6 ∷ []
ops p o_shl = l_alu Sll 7 5 6 ∷ l_alui Sltiu 28 6 32 ∷ l_mul Mul 7 7 28 ∷ []
ops p o_shr = l_alu Srl 7 5 6 ∷ l_alui Sltiu 28 6 32 ∷ l_mul Mul 7 7 28 ∷ []

-- the upper part of a number, and what is added to it
abbrev pub top : ℕ → ℕ
top n = (n + 2048) % all / 4096

abbrev pub high : ℕ → ℕ
high n = top n * 4096

abbrev pub low : ℕ → ℕ
low n = sub n (high n)

abbrev pub ops1 : Op1 → List LI
ops1 u_neg = l_num 6 0 ∷ l_alu Sub 7 6 5 ∷ []
ops1 u_not = l_alui Sltiu 7 5 1 ∷ []
ops1 u_inv = l_num 6 4294967295 ∷ l_alu Sub 7 6 5 ∷ []
ops1 u_flag = l_alui Sltiu 7 5 1 ∷ l_alui Xori 7 7 1 ∷ []

-- arrays at the top: how long they are, where each begins behind the words, how many elements in all
abbrev pub lens : List Cells → List ℕ
lens [] = []
lens (c ∷ cs) = length c.cells ∷ lens cs

abbrev pub area : List ℕ → ℕ
area [] = 0
area (n ∷ ns) = n + area ns

abbrev pub begin_of : List ℕ → ℕ → ℕ
begin_of [] a = 0
begin_of (n ∷ ns) zero = 0
begin_of (n ∷ ns) (suc a) = n + begin_of ns a

abbrev pub size_of : List ℕ → ℕ → ℕ
size_of ns a = opt (nth ns a) 0 (λ n. n)

abbrev pub flat : List Cells → List ℕ
flat [] = []
flat (c ∷ cs) = c.cells ++ flat cs

-- arrays that hold something at first stand in the body, the words and the other arrays behind it
abbrev pub live : List ℕ → Bool
live [] = false
live (n ∷ ns) = pick (eqb n 0) (live ns) true

unfoldable pub live_of : MProg → ℕ → Bool
live_of m a = opt (nth m.arrays a) false (λ c. live c.cells)

abbrev pub kept : Bool → Cells → Cells
kept true c = c
kept false c = record { wide = c.wide; cells = [] }

abbrev pub part : (ℕ → Bool) → List Cells → List Cells
part fl [] = []
part fl (c ∷ cs) = kept (fl 0) c ∷ part (λ a. fl (suc a)) cs

abbrev pub plens : (ℕ → Bool) → List ℕ → List ℕ
plens fl [] = []
plens fl (n ∷ ns) = pick (fl 0) n 0 ∷ plens (λ a. fl (suc a)) ns

abbrev pub place : (ℕ → Bool) → ℕ → List ℕ → ℕ → ℕ
place fl w ns a = pick (fl a) (begin_of (plens fl ns) a) (area (plens fl ns) + (w + begin_of (plens (λ i. not (fl i)) ns) a))

abbrev pub data_of : MProg → List ℕ
data_of m = flat (part (live_of m) m.arrays)

abbrev pub data_size : MProg → ℕ
data_size m = area (plens (live_of m) (lens m.arrays))

abbrev pub nought_words : MProg → ℕ
nought_words m = m.words + area (plens (λ i. not (live_of m i)) (lens m.arrays))

abbrev pub data_words : MProg → ℕ
data_words m = data_size m + nought_words m

-- how far the word i is below the stack's floor
abbrev pub down_to : MProg → ℕ → ℕ
down_to m i = (all - 4 * (data_words m - i)) % all

abbrev pub word_no : MProg → ℕ → ℕ
word_no m i = down_to m (data_size m + i)

abbrev pub array_size : MProg → ℕ → ℕ
array_size m a = size_of (lens m.arrays) a

abbrev pub array_at : MProg → ℕ → ℕ
array_at m a = down_to m (place (live_of m) m.words (lens m.arrays) a)

-- tables of functions stand behind the code, one after another: how long they are, how many words in all, how far one is below the stack's floor
abbrev pub tlens : List (List ℕ) → List ℕ
tlens [] = []
tlens (hs ∷ ts) = length hs ∷ tlens ts

abbrev pub tab_size : MProg → ℕ
tab_size m = area (tlens m.tables)

abbrev pub tab_long : MProg → ℕ → ℕ
tab_long m t = size_of (tlens m.tables) t % all

abbrev pub tab_at : MProg → ℕ → ℕ
tab_at m t = (all - 4 * (data_words m + (tab_size m - begin_of (tlens m.tables) t))) % all

-- a table's words: how far the functions' entries are below the floor, which is n words behind the code's beginning
abbrev pub tab_row : (ℕ → ℕ) → ℕ → List ℕ → List ℕ
tab_row en n [] = []
tab_row en n (h ∷ hs) = (all - 4 * (n - en h)) % all ∷ tab_row en n hs

abbrev pub tab_words : (ℕ → ℕ) → ℕ → List (List ℕ) → List ℕ
tab_words en n [] = []
tab_words en n (hs ∷ ts) = tab_row en n hs ++ tab_words en n ts

-- what is put into an array of bytes loses all but its lowest 8 bits
abbrev pub masks : Bool → List LI
masks true = []
masks false = l_alui Andi 7 7 255 ∷ []

-- arguments to the registers from q on
abbrev pub loads : ℕ → ℕ → ℕ → List LI
loads q k zero = []
loads q k (suc n) = l_lw q (suc k) ∷ loads (suc q) (suc k) n

-- the register rg j to the place j, for n places from k on
abbrev pub stores : (ℕ → ℕ) → ℕ → ℕ → List LI
stores rg k zero = []
stores rg k (suc n) = l_sw (rg k) (suc k) ∷ stores rg (suc k) n

-- a frame: the return address, and the function's places
abbrev pub slots : MFn → ℕ
slots f = f.places

abbrev pub frame_size : MFn → ℕ
frame_size f = suc (slots f)

-- the number n in register r
abbrev pub number : ℕ → ℕ → List LI
number r n = l_lui r (top n) ∷ l_alui Addi r r (low n) ∷ []

-- the end with trap c
abbrev pub traps : ℕ → List LI
traps c = l_num 10 c ∷ l_num 17 3 ∷ l_ecall ∷ []

-- at place p: trap 1 unless register 5 is below n; it is looked at before anything is read or written
abbrev pub inside : ℕ → ℕ → List LI
inside p n = number 6 n ++ (l_alu Sltu 7 5 6 ∷ l_bnz 7 (suc (suc (suc (suc (suc (suc (suc p))))))) ∷ traps 1)

-- the address n from the floor, but for its low part, in register r
abbrev pub near_floor : ℕ → ℕ → List LI
near_floor r n = l_lui r (top n) ∷ l_addg r r ∷ []

-- the same of the word whose number is in register 5, in register 6
abbrev pub element : ℕ → List LI
element n = near_floor 6 n ++ (l_alu Add 5 5 5 ∷ l_alu Add 5 5 5 ∷ l_alu Add 6 6 5 ∷ [])

-- at place p, of the function f whose steps stand at 'at'; functions begin at 'entry'
abbrev pub lower : (ℕ → ℕ) → (ℕ → ℕ) → MProg → MFn → ℕ → Step → List LI
lower entry at m f p (s_num d n) = number 5 n ++ (l_sw 5 (suc d) ∷ [])
lower entry at m f p (s_copy d a) = l_lw 5 (suc a) ∷ l_sw 5 (suc d) ∷ []
lower entry at m f p (s_bin o d a b) = l_lw 5 (suc a) ∷ l_lw 6 (suc b) ∷ (ops (suc (suc p)) (op_of o) ++ (l_sw 7 (suc d) ∷ []))
lower entry at m f p (s_un o d a) = l_lw 5 (suc a) ∷ (ops1 (op1_of o) ++ (l_sw 7 (suc d) ∷ []))
lower entry at m f p (s_flag d a) = l_lw 5 (suc a) ∷ (ops1 u_flag ++ (l_sw 7 (suc d) ∷ []))
lower entry at m f p (s_getw d i) = near_floor 5 (word_no m i) ++ (l_lwr 6 5 (low (word_no m i)) ∷ l_sw 6 (suc d) ∷ [])
lower entry at m f p (s_setw i a) = near_floor 5 (word_no m i) ++ (l_lw 6 (suc a) ∷ l_swr 6 5 (low (word_no m i)) ∷ [])
lower entry at m f p (s_jump t) = l_j (at t) ∷ []
lower entry at m f p (s_jz a t) = l_lw 5 (suc a) ∷ l_bnz 5 (suc (suc (suc p))) ∷ l_j (at t) ∷ []
lower entry at m f p (s_call d g k n os) = loads 10 k n ++ (l_jal (entry g) ∷ l_sw 10 (suc d) ∷ [])
lower entry at m f p (s_out a) = l_lw 10 (suc a) ∷ l_num 17 1 ∷ l_ecall ∷ []
lower entry at m f p (s_ret a) = l_lw 10 (suc a) ∷ l_lw 1 0 ∷ (number 6 (4 * frame_size f) ++ (l_upr 6 ∷ l_ret ∷ []))
lower entry at m f p (s_table d i t k n os) = l_lw 5 (suc i) ∷ (inside (suc p) (tab_long m t) ++ (element (tab_at m t) ++ (l_lwr 6 6 (low (tab_at m t)) ∷ l_addg 6 6 ∷ (loads 10 k n ++ (l_callr 6 ∷ l_sw 10 (suc d) ∷ [])))))
lower entry at m f p (s_in d) = l_num 17 2 ∷ l_ecall ∷ l_bnz 11 (suc (suc (suc (suc (suc (suc p)))))) ∷ (traps 3 ++ (l_sw 10 (suc d) ∷ []))
lower entry at m f p (s_idx d (o_top a) i) = l_lw 5 (suc i) ∷ (inside (suc p) (array_size m a) ++ (element (array_at m a) ++ (l_lwr 7 6 (low (array_at m a)) ∷ l_sw 7 (suc d) ∷ [])))
lower entry at m f p (s_idx d (o_own j) i) = []
lower entry at m f p (s_put w (o_top a) i b) = l_lw 5 (suc i) ∷ (inside (suc p) (array_size m a) ++ (element (array_at m a) ++ (l_lw 7 (suc b) ∷ (masks w ++ (l_swr 7 6 (low (array_at m a)) ∷ [])))))
lower entry at m f p (s_put w (o_own j) i b) = []
lower entry at m f p (s_len d (o_top a)) = number 5 (array_size m a) ++ (l_sw 5 (suc d) ∷ [])
lower entry at m f p (s_len d (o_own j)) = []

-- how a function begins: no room unless the stack has its frame; then the frame, the way back, the parameters, and noughts for the variables
abbrev pub prologue : ℕ → MFn → List LI
prologue p f = l_sp 5 ∷ l_room 5 5 ∷ (number 6 (4 * frame_size f) ++ (l_bge 5 6 (suc (suc (suc (suc (suc (suc (suc p))))))) ∷ l_num 17 4 ∷ l_ecall ∷ l_downr 6 ∷ l_sw 1 0 ∷ (stores (λ j. 10 + j) 0 f.params ++ (l_num 5 0 ∷ stores (λ j. 5) f.params f.vars))))

-- the last instructions: the end of the program
abbrev pub stub : List LI
stub = l_num 17 0 ∷ l_ecall ∷ []

-- how many instructions a step has doesn't depend on where it stands
abbrev pub width : MProg → MFn → Step → ℕ
width m f s = length (lower (λ g. 0) (λ i. 0) m f 0 s)

-- places of steps and functions
abbrev pub at_of : MProg → MFn → List Step → ℕ → ℕ → ℕ
at_of m f [] q i = q
at_of m f (s ∷ ss) q zero = q
at_of m f (s ∷ ss) q (suc i) = at_of m f ss (q + width m f s) i

abbrev pub code_of : (ℕ → ℕ) → (ℕ → ℕ) → MProg → MFn → List Step → ℕ → List LI
code_of en at m f [] q = []
code_of en at m f (s ∷ ss) q = lower en at m f q s ++ code_of en at m f ss (q + width m f s)

abbrev pub pro_width : MFn → ℕ
pro_width f = length (prologue 0 f)

abbrev pub fun_row : (ℕ → ℕ) → MProg → MFn → ℕ → List LI
fun_row en m f q = prologue q f ++ code_of en (at_of m f f.code (q + pro_width f)) m f f.code (q + pro_width f)

abbrev pub fun_width : MProg → MFn → ℕ
fun_width m f = length (fun_row (λ g. 0) m f 0)

abbrev pub entry_of : MProg → List MFn → ℕ → ℕ → ℕ
entry_of m [] q g = q
entry_of m (f ∷ fs) q zero = q
entry_of m (f ∷ fs) q (suc g) = entry_of m fs (q + fun_width m f) g

abbrev pub funs_row : (ℕ → ℕ) → MProg → List MFn → ℕ → List LI
funs_row en m [] q = []
funs_row en m (f ∷ fs) q = fun_row en m f q ++ funs_row en m fs (q + fun_width m f)

-- function 0 only calls the main one and ends: that is the row's beginning, and it has no code of its own
abbrev pub others : List MFn → List MFn
others [] = []
others (f ∷ fs) = fs

abbrev pub fun_of : MProg → ℕ → Option MFn
fun_of m zero = none
fun_of m (suc g) = nth (others m.funs) g

abbrev pub entry_in : MProg → ℕ → ℕ
entry_in m zero = 0
entry_in m (suc g) = entry_of m (others m.funs) 6 g

abbrev pub at_in : MProg → ℕ → ℕ → ℕ
at_in m g i = opt (fun_of m g) 0 (λ f. at_of m f f.code (entry_in m g + pro_width f) i)

-- the call of the main function, the end, and the functions
abbrev pub row_of : MProg → ℕ → List LI
row_of m main = l_num 5 2047 ∷ l_alui Addi 5 5 1 ∷ l_upr 5 ∷ l_jal (entry_in m main) ∷ (stub ++ funs_row (entry_in m) m (others m.funs) 6)

-- the row's words, and the image: the words at the top follow the code, and nothing is moved
abbrev pub words_of : ℕ → List LI → List ℕ
words_of p [] = []
words_of p (i ∷ is) = encode (to_real p i) ∷ words_of (suc p) is

abbrev pub code_words : MProg → ℕ → List ℕ
code_words m main = words_of 0 (row_of m main) ++ tab_words (entry_in m) ((length (row_of m main) + tab_size m) + data_words m) m.tables

abbrev pub image_of : MProg → List ℕ → Image
image_of p code = record { body = code ++ data_of p; noughts = nought_words p; entry = 0; moved = [] }

abbrev pub main_no : Prog → ℕ
main_no p = fn_no p (first_file p) w_main

abbrev pub compile : Prog → Image
compile p = image_of (gen_prog p) (code_words (gen_prog p) (main_no p))
