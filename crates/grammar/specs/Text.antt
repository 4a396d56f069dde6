-- Texts: which bytes are which pieces, and which pieces are which program. This is the grammar as it must be believed.
-- Rests on the language's Syntax (trees) and Checks (`ok`); every promise about a text is in the words of `Reads`, at the end.
use Rattle.std.specs.Prelude.{◌≡◌, Bool, true, false, ◌&&◌, ◌||◌, not, List, [], ◌∷◌, ◌++◌, ℕ, suc, ◌+◌, ◌-◌, ◌*◌, ◌<◌, codes, eqb, leb, T, length}
use Rattle.std.proofs.Math.Option.{Option, some, none}
use Rattle.language.specs.Syntax.{pick, Name, same, listed, Expr, num, var, bin, un, and1, or1, idx, len, call, by_table, input, Exprs, no, and_then, Stmt, set1, store1, ex1, out1, if1, while1, ret1, break1, next1, Block, end, seq1, k_word, k_arr, Param, Arr, Item, i_word, i_arr, i_data, i_table, i_fn, i_use, Prog}
use Rattle.language.specs.Checks.{ok}

-- From bytes to pieces.
-- A piece is a list of bytes: a word (letters, digits and _), a quoted text, or a sign of one or two bytes. Blanks and notes stand between
-- pieces and are none. Each piece is as long as it can be, from the left: `<<=` is `<<` and `=`.

-- the digits 0 to 9
abbrev pub digit : ℕ → Bool
digit c = leb 48 c && leb c 57

-- the bytes of words: a to z, A to Z, _ and digits
abbrev pub word_byte : ℕ → Bool
word_byte c = (leb 97 c && leb c 122) || ((leb 65 c && leb c 90) || (eqb c 95 || digit c))

-- the blanks: space (32), the ends of a line (10 and 13) and tab (9)
abbrev pub blank : ℕ → Bool
blank c = eqb c 32 || (eqb c 10 || (eqb c 13 || eqb c 9))

-- the signs that may be the first of two: = ! < > & |
abbrev pub may_join : ℕ → Bool
may_join c = eqb c 61 || (eqb c 33 || (eqb c 60 || (eqb c 62 || (eqb c 38 || eqb c 124))))

-- such a sign d and the byte c behind it are one piece: = behind = ! < >, or the same again behind < > & |
abbrev pub joins : ℕ → ℕ → Bool
joins d c = pick (eqb c 61) (not (eqb d 38 || eqb d 124)) (eqb c d && not (eqb d 33))

-- where a text stands behind the bytes read so far
pub data Mode : Type 0 where
  -- between pieces
  gap : Mode
  -- in a word, with its bytes so far
  word : Name → Mode
  -- in a quoted text, with the quote that opens it and its bytes so far; it holds any byte but the quote
  quoted : Name → Mode
  -- behind a sign that may be the first of two
  sign : ℕ → Mode
  -- in a note, which only byte 10 ends
  note : Mode

-- the pieces that a byte finishes, and where the text stands then
pub record Turn : Type 0 where
  pub out : List Name
  pub mode : Mode

abbrev pub turn : List Name → Mode → Turn
turn o m = record { out = o; mode = m }

-- a byte that goes on with no piece, behind the pieces o that it finishes: # (35) begins a note, a quote (34) a quoted text; a byte that is
-- nothing else is a sign of its own
abbrev pub from_gap : List Name → ℕ → Turn
from_gap o c =
    pick (blank c) (turn o gap)
    (pick (eqb c 35) (turn o note)
    (pick (eqb c 34) (turn o (quoted (34 ∷ [])))
    (pick (word_byte c) (turn o (word (c ∷ [])))
    (pick (may_join c) (turn o (sign c))
    (turn (o ++ ((c ∷ []) ∷ [])) gap)))))

abbrev pub read_byte : Mode → ℕ → Turn
read_byte gap c = from_gap [] c
read_byte (word w) c = pick (word_byte c) (turn [] (word (w ++ (c ∷ [])))) (from_gap (w ∷ []) c)
read_byte (quoted w) c = pick (eqb c 34) (turn (w ∷ []) gap) (turn [] (quoted (w ++ (c ∷ []))))
read_byte (sign d) c = pick (joins d c) (turn ((d ∷ c ∷ []) ∷ []) gap) (from_gap ((d ∷ []) ∷ []) c)
read_byte note c = pick (eqb c 10) (turn [] gap) (turn [] note)

-- the piece that the text's end finishes; a quoted text with no end is the piece #, which no program has
abbrev pub at_end : Mode → List Name
at_end gap = []
at_end (word w) = w ∷ []
at_end (quoted w) = codes "#" ∷ []
at_end (sign d) = (d ∷ []) ∷ []
at_end note = []

abbrev pub pieces : Mode → List ℕ → List Name
pieces m [] = at_end m
pieces m (c ∷ cs) = let t = read_byte m c in t.out ++ pieces t.mode cs

-- Words and signs, by their bytes.

-- the words that a program is made of
abbrev pub k_file : Name
k_file = codes "file"

abbrev pub k_use : Name
k_use = codes "use"

abbrev pub k_var : Name
k_var = codes "var"

abbrev pub k_array : Name
k_array = codes "array"

abbrev pub k_bytes : Name
k_bytes = codes "bytes"

abbrev pub k_table : Name
k_table = codes "table"

abbrev pub k_fn : Name
k_fn = codes "fn"

abbrev pub k_if : Name
k_if = codes "if"

abbrev pub k_else : Name
k_else = codes "else"

abbrev pub k_while : Name
k_while = codes "while"

abbrev pub k_return : Name
k_return = codes "return"

abbrev pub k_break : Name
k_break = codes "break"

abbrev pub k_continue : Name
k_continue = codes "continue"

abbrev pub k_out : Name
k_out = codes "out"

abbrev pub k_in : Name
k_in = codes "in"

abbrev pub k_len : Name
k_len = codes "len"

abbrev pub k_call : Name
k_call = codes "call"

-- left and right: parentheses, brackets, curly brackets
abbrev pub t_lp : Name
t_lp = codes "("

abbrev pub t_rp : Name
t_rp = codes ")"

abbrev pub t_lb : Name
t_lb = codes "["

abbrev pub t_rb : Name
t_rb = codes "]"

abbrev pub t_lc : Name
t_lc = codes "{"

abbrev pub t_rc : Name
t_rc = codes "}"

abbrev pub t_comma : Name
t_comma = codes ","

abbrev pub t_semi : Name
t_semi = codes ";"

abbrev pub t_colon : Name
t_colon = codes ":"

abbrev pub t_gets : Name
t_gets = codes "="

-- the words that are no names
abbrev pub reserved : List Name
reserved =
    k_file ∷ k_use ∷ k_var ∷ k_array ∷ k_bytes ∷ k_table ∷ k_fn ∷ k_if ∷ k_else ∷ k_while ∷ k_return ∷ k_break ∷ k_continue ∷ k_out ∷ k_in
    ∷ k_len ∷ k_call ∷ []

abbrev pub word_bytes : Name → Bool
word_bytes [] = true
word_bytes (c ∷ cs) = word_byte c && word_bytes cs

abbrev pub digit_first : Name → Bool
digit_first [] = true
digit_first (c ∷ cs) = digit c

-- a name: a word of 1 to 32 bytes that begins with no digit and is not reserved
abbrev pub is_name : Name → Bool
is_name x = leb 1 (length x) && (leb (length x) 32 && (word_bytes x && (not (digit_first x) && not (listed x reserved))))

-- the value of digits, behind digits whose value is n
abbrev pub decimal : ℕ → List ℕ → Option ℕ
decimal n [] = some n
decimal n (c ∷ cs) = pick (digit c) (decimal (n * 10 + (c - 48)) cs) none

-- a number: 1 to 10 digits (that it is below 2 ^ 32 is a check of the program)
abbrev pub IsNumber : Name → ℕ → Type 0
IsNumber w n = T (leb 1 (length w) && leb (length w) 10) × (decimal 0 w ≡ some n)

-- From pieces to trees: each relation says which pieces are which part of a tree.

-- the signs between two, by how tightly they hold, with their numbers in the tree
pub data Between : ℕ → Name → ℕ → Type 0 where
  plus : Between 6 (codes "+") 0
  minus : Between 6 (codes "-") 1
  times : Between 7 (codes "*") 2
  over : Between 7 (codes "/") 3
  rest : Between 7 (codes "%") 4
  is : Between 2 (codes "==") 5
  isnt : Between 2 (codes "!=") 6
  less : Between 2 (codes "<") 7
  most : Between 2 (codes "<=") 8
  more : Between 2 (codes ">") 9
  least : Between 2 (codes ">=") 10
  both : Between 4 (codes "&") 11
  any : Between 3 (codes "|") 12
  exclusive : Between 3 (codes "^") 13
  left : Between 5 (codes "<<") 14
  right : Between 5 (codes ">>") 15

-- the signs before one
pub data Before : Name → ℕ → Type 0 where
  minus_before : Before (codes "-") 0
  not_before : Before (codes "!") 1
  flip_before : Before (codes "~") 2

-- names, and numbers: one or more, with commas between them
pub data AreNames : List Name → List Name → Type 0 where
  one_n : {x : Name} → T (is_name x) → AreNames (x ∷ []) (x ∷ [])
  more_n : {x : Name} {s xs : List Name} → T (is_name x) → AreNames s xs → AreNames (x ∷ t_comma ∷ s) (x ∷ xs)

pub data AreNumbers : List Name → List ℕ → Type 0 where
  one_v : {w : Name} {n : ℕ} → IsNumber w n → AreNumbers (w ∷ []) (n ∷ [])
  more_v : {w : Name} {n : ℕ} {s : List Name} {ns : List ℕ} → IsNumber w n → AreNumbers s ns → AreNumbers (w ∷ t_comma ∷ s) (n ∷ ns)

-- Expressions, by how tightly they hold: 0 ||, 1 &&, 2 comparisons, 3 | and ^, 4 &, 5 shifts, 6 sums, 7 products, 8 a sign before one,
-- 9 the rest. Those of one kind are read from the left: the left part may be of the same kind, the right part holds tighter.
mutual
  pub data IsExpr : ℕ → List Name → Expr → Type 0 where
    -- what holds tighter may stand where less is asked
    looser : {n : ℕ} {s : List Name} {e : Expr} → n < 9 → IsExpr (suc n) s e → IsExpr n s e
    -- a || b, a && b, and any other sign between two
    or_e : {s t : List Name} {a b : Expr} → IsExpr 0 s a → IsExpr 1 t b → IsExpr 0 (s ++ (codes "||" ∷ t)) (or1 a b)
    and_e : {s t : List Name} {a b : Expr} → IsExpr 1 s a → IsExpr 2 t b → IsExpr 1 (s ++ (codes "&&" ∷ t)) (and1 a b)
    two_e :
        {s t : List Name} {a b : Expr} {w : Name} {n o : ℕ} → IsExpr n s a → Between n w o → IsExpr (suc n) t b →
        IsExpr n (s ++ (w ∷ t)) (bin o a b)
    -- -a !a ~a
    one_e : {s : List Name} {a : Expr} {w : Name} {o : ℕ} → Before w o → IsExpr 8 s a → IsExpr 8 (w ∷ s) (un o a)
    -- 5
    num_e : {w : Name} {n : ℕ} → IsNumber w n → IsExpr 9 (w ∷ []) (num n)
    -- x
    var_e : {x : Name} → T (is_name x) → IsExpr 9 (x ∷ []) (var x)
    -- (e)
    brackets_e : {s : List Name} {e : Expr} → IsExpr 0 s e → IsExpr 9 (t_lp ∷ (s ++ (t_rp ∷ []))) e
    -- x[e]
    index_e : {x : Name} {s : List Name} {e : Expr} → T (is_name x) → IsExpr 0 s e → IsExpr 9 (x ∷ t_lb ∷ (s ++ (t_rb ∷ []))) (idx x e)
    -- len(x)
    len_e : {x : Name} → T (is_name x) → IsExpr 9 (k_len ∷ t_lp ∷ x ∷ t_rp ∷ []) (len x)
    -- x(e, e)
    call_e : {x : Name} {s : List Name} {es : Exprs} → T (is_name x) → AreArgs s es → IsExpr 9 (x ∷ t_lp ∷ (s ++ (t_rp ∷ []))) (call x es)
    -- call x[e](e, e)
    table_e :
        {x : Name} {s t : List Name} {e : Expr} {es : Exprs} → T (is_name x) → IsExpr 0 s e → AreArgs t es →
        IsExpr 9 (k_call ∷ x ∷ t_lb ∷ (s ++ (t_rb ∷ t_lp ∷ (t ++ (t_rp ∷ []))))) (by_table x e es)
    -- in()
    in_e : IsExpr 9 (k_in ∷ t_lp ∷ t_rp ∷ []) input

  -- arguments: none or more, with commas between them
  pub data AreArgs : List Name → Exprs → Type 0 where
    none_es : AreArgs [] no
    one_es : {s : List Name} {e : Expr} → IsExpr 0 s e → AreArgs s (and_then e no)
    more_es :
        {s t : List Name} {e f : Expr} {es : Exprs} → IsExpr 0 s e → AreArgs t (and_then f es) →
        AreArgs (s ++ (t_comma ∷ t)) (and_then e (and_then f es))

-- statements, and what stands in curly brackets
mutual
  pub data IsStmt : List Name → Stmt → Type 0 where
    -- x = e;
    set_s : {x : Name} {s : List Name} {e : Expr} → T (is_name x) → IsExpr 0 s e → IsStmt (x ∷ t_gets ∷ (s ++ (t_semi ∷ []))) (set1 x e)
    -- x[i] = e;
    store_s :
        {x : Name} {s t : List Name} {i e : Expr} → T (is_name x) → IsExpr 0 s i → IsExpr 0 t e →
        IsStmt (x ∷ t_lb ∷ (s ++ (t_rb ∷ t_gets ∷ (t ++ (t_semi ∷ []))))) (store1 x i e)
    -- e;
    ex_s : {s : List Name} {e : Expr} → IsExpr 0 s e → IsStmt (s ++ (t_semi ∷ [])) (ex1 e)
    -- out e;
    out_s : {s : List Name} {e : Expr} → IsExpr 0 s e → IsStmt (k_out ∷ (s ++ (t_semi ∷ []))) (out1 e)
    -- if e { }
    if_s :
        {s t : List Name} {e : Expr} {b : Block} → IsExpr 0 s e → IsBlock t b →
        IsStmt (k_if ∷ (s ++ (t_lc ∷ (t ++ (t_rc ∷ []))))) (if1 e b end)
    -- if e { } else { }
    ifelse_s :
        {s t u : List Name} {e : Expr} {b c : Block} → IsExpr 0 s e → IsBlock t b → IsBlock u c →
        IsStmt (k_if ∷ (s ++ (t_lc ∷ (t ++ (t_rc ∷ k_else ∷ t_lc ∷ (u ++ (t_rc ∷ []))))))) (if1 e b c)
    -- while e { }
    while_s :
        {s t : List Name} {e : Expr} {b : Block} → IsExpr 0 s e → IsBlock t b →
        IsStmt (k_while ∷ (s ++ (t_lc ∷ (t ++ (t_rc ∷ []))))) (while1 e b)
    -- return e;
    return_s : {s : List Name} {e : Expr} → IsExpr 0 s e → IsStmt (k_return ∷ (s ++ (t_semi ∷ []))) (ret1 e)
    -- break;
    break_s : IsStmt (k_break ∷ t_semi ∷ []) break1
    -- continue;
    continue_s : IsStmt (k_continue ∷ t_semi ∷ []) next1

  pub data IsBlock : List Name → Block → Type 0 where
    end_s : IsBlock [] end
    more_s : {s t : List Name} {a : Stmt} {b : Block} → IsStmt s a → IsBlock t b → IsBlock (s ++ t) (seq1 a b)

-- a parameter: x a word, x[] an array of words, x[:] an array of bytes
pub data IsParam : List Name → Param → Type 0 where
  word_p : {x : Name} → T (is_name x) → IsParam (x ∷ []) (record { name = x; kind = k_word })
  wide_p : {x : Name} → T (is_name x) → IsParam (x ∷ t_lb ∷ t_rb ∷ []) (record { name = x; kind = k_arr true })
  byte_p : {x : Name} → T (is_name x) → IsParam (x ∷ t_lb ∷ t_colon ∷ t_rb ∷ []) (record { name = x; kind = k_arr false })

pub data AreParams : List Name → List Param → Type 0 where
  none_ps : AreParams [] []
  one_ps : {s : List Name} {q : Param} → IsParam s q → AreParams s (q ∷ [])
  more_ps :
      {s t : List Name} {q r : Param} {qs : List Param} → IsParam s q → AreParams t (r ∷ qs) →
      AreParams (s ++ (t_comma ∷ t)) (q ∷ r ∷ qs)

-- a function's variables, first in its body: at most one line `var x, y;`
pub data AreVars : List Name → List Name → Type 0 where
  no_vars : AreVars [] []
  some_vars : {s xs : List Name} → AreNames s xs → AreVars (k_var ∷ (s ++ (t_semi ∷ []))) xs

-- its arrays, behind them: lines `array x[5];` and `bytes x[5];`
pub data AreArrays : List Name → List Arr → Type 0 where
  no_arrs : AreArrays [] []
  wide_a :
      {x w : Name} {n : ℕ} {s : List Name} {as₁ : List Arr} → T (is_name x) → IsNumber w n → AreArrays s as₁ →
      AreArrays (k_array ∷ x ∷ t_lb ∷ w ∷ t_rb ∷ t_semi ∷ s) (record { name = x; wide = true; size = n } ∷ as₁)
  byte_a :
      {x w : Name} {n : ℕ} {s : List Name} {as₁ : List Arr} → T (is_name x) → IsNumber w n → AreArrays s as₁ →
      AreArrays (k_bytes ∷ x ∷ t_lb ∷ w ∷ t_rb ∷ t_semi ∷ s) (record { name = x; wide = false; size = n } ∷ as₁)

-- the items of a file
pub data IsItem : List Name → Item → Type 0 where
  -- var x;
  word_i : {x : Name} → T (is_name x) → IsItem (k_var ∷ x ∷ t_semi ∷ []) (i_word x)
  -- array x[5]; and bytes x[5];
  wide_i :
      {x w : Name} {n : ℕ} → T (is_name x) → IsNumber w n →
      IsItem (k_array ∷ x ∷ t_lb ∷ w ∷ t_rb ∷ t_semi ∷ []) (i_arr (record { name = x; wide = true; size = n }))
  byte_i :
      {x w : Name} {n : ℕ} → T (is_name x) → IsNumber w n →
      IsItem (k_bytes ∷ x ∷ t_lb ∷ w ∷ t_rb ∷ t_semi ∷ []) (i_arr (record { name = x; wide = false; size = n }))
  -- array x = 5, 6; and bytes x = a quoted text, whose piece begins with the quote (34);
  data_i :
      {x : Name} {s : List Name} {ns : List ℕ} → T (is_name x) → AreNumbers s ns →
      IsItem (k_array ∷ x ∷ t_gets ∷ (s ++ (t_semi ∷ []))) (i_data true x ns)
  text_i : {x : Name} {ns : List ℕ} → T (is_name x) → IsItem (k_bytes ∷ x ∷ t_gets ∷ (34 ∷ ns) ∷ t_semi ∷ []) (i_data false x ns)
  -- table x = f, g;
  table_i :
      {x : Name} {s fs : List Name} → T (is_name x) → AreNames s fs →
      IsItem (k_table ∷ x ∷ t_gets ∷ (s ++ (t_semi ∷ []))) (i_table x fs)
  -- use x: f, g;
  use_i : {x : Name} {s ys : List Name} → T (is_name x) → AreNames s ys → IsItem (k_use ∷ x ∷ t_colon ∷ (s ++ (t_semi ∷ []))) (i_use x ys)
  -- fn x(parameters) { variables arrays statements }
  fn_i :
      {x : Name} {s t u v : List Name} {qs : List Param} {xs : List Name} {as₁ : List Arr} {b : Block} →
      T (is_name x) → AreParams s qs → AreVars t xs → AreArrays u as₁ → IsBlock v b →
      IsItem
      (k_fn ∷ x ∷ t_lp ∷ (s ++ (t_rp ∷ t_lc ∷ (t ++ (u ++ (v ++ (t_rc ∷ [])))))))
      (i_fn (record { name = x; params = qs; vars = xs; arrs = as₁; body = b }))

pub data AreItems : List Name → List Item → Type 0 where
  no_items : AreItems [] []
  more_items : {s t : List Name} {i : Item} {is : List Item} → IsItem s i → AreItems t is → AreItems (s ++ t) (i ∷ is)

-- files: each begins with `file x;` and goes on to the next
pub data AreFiles : List Name → Prog → Type 0 where
  no_files : AreFiles [] []
  more_files :
      {x : Name} {s t : List Name} {is : List Item} {fs : Prog} → T (is_name x) → AreItems s is → AreFiles t fs →
      AreFiles (k_file ∷ x ∷ t_semi ∷ (s ++ t)) (record { name = x; items = is } ∷ fs)

-- The limits of a text.

-- brackets of any kind, of which at most 40 are open at once; the curly bracket of a function's body is one of them
abbrev pub opens : Name → Bool
opens w = same w t_lp || (same w t_lb || same w t_lc)

abbrev pub shuts : Name → Bool
shuts w = same w t_rp || (same w t_rb || same w t_rc)

-- with n brackets open before the first of the pieces
abbrev pub flat : ℕ → List Name → Bool
flat n [] = true
flat n (w ∷ ws) = leb n 40 && flat (pick (opens w) (n + 1) (pick (shuts w) (n - 1) n)) ws

-- at most 40 of the signs - ! ~ stand in a row; a minus between two is such a sign here
abbrev pub is_before : Name → Bool
is_before w = same w (codes "-") || (same w (codes "!") || same w (codes "~"))

-- with n of them in a row before the first of the pieces
abbrev pub calm : ℕ → List Name → Bool
calm n [] = true
calm n (w ∷ ws) = leb n 40 && calm (pick (is_before w) (n + 1) 0) ws

-- The program of a text.

-- the text t, a list of bytes, is the program p: its pieces are p's files, it keeps to the limits (32,768 bytes at most), p passes the checks
pub record Reads (t : List ℕ) (p : Prog) : Type 0 where
  pub said : AreFiles (pieces gap t) p
  pub small : T (leb (length t) 32768 && (flat 0 (pieces gap t) && calm 0 (pieces gap t)))
  pub sound : T (ok p)
