-- What becomes of a node with a name, by its tag and by what the name stands for; and of a node without one, by its tag.
use Rattle.std.specs.Prelude.{ℕ, ◌+◌, ◌<◌, Bool, ◌||◌, ◌==◌, nat_lt}
use Rattle.language.specs.Syntax.{pick, opt}
use Rattle.steps.specs.Steps.{Opnd, o_top, o_own}
use Rattle.generator.specs.Resolved.{Resolved, v_num, v_own, v_copy, v_get, v_arr, v_bin, v_un, v_and, v_or, v_join, v_idx, v_len, v_call, v_by, v_in, v_set, v_setw, v_clear, v_store, v_ex, v_out, v_if, v_else, v_fi, v_loop, v_while, v_again, v_ret, v_break, v_next, v_end}
use Rattle.names.specs.declared.found.Reference as found
use Rattle.names.specs.declared.found.Reference.TheVariants.{OwnWord, OwnArray, TopWord, TopArray, Other}
use Rattle.names.specs.Refer.{operand, wide}
use Rattle.resolver.specs.declared.words.Array.{Array}
use Rattle.resolver.specs.declared.words.Array.TheVariants.{Top, Own}
use Rattle.resolver.specs.declared.words.Resolved as code
use Rattle.resolver.specs.declared.words.Resolved.TheVariants as variant

-- its number is a word
abbrev pub Fits : found.Reference → Type 0
Fits (OwnWord i) = i < 4294967296
Fits (OwnArray i w) = i < 4294967296
Fits (TopWord i) = i < 4294967296
Fits (TopArray i w) = i < 4294967296
Fits Other = Unit {0}

-- read, passed on, set
abbrev pub read_of : found.Reference → Resolved
read_of (OwnWord i) = v_own i
read_of (OwnArray i w) = v_num 0
read_of (TopWord i) = v_get i
read_of (TopArray i w) = v_num 0
read_of Other = v_num 0

abbrev pub pass_of : found.Reference → Resolved
pass_of (OwnWord i) = v_copy i
pass_of (OwnArray i w) = v_arr (o_own i)
pass_of (TopWord i) = v_get i
pass_of (TopArray i w) = v_arr (o_top i)
pass_of Other = v_num 0

abbrev pub set_of : found.Reference → Resolved
set_of (OwnWord i) = v_set i
set_of (OwnArray i w) = v_clear
set_of (TopWord i) = v_setw i
set_of (TopArray i w) = v_clear
set_of Other = v_clear

-- the array that is meant
abbrev pub array_of : found.Reference → Opnd
array_of r = opt (operand r) (o_top 0) (λ o. o)

abbrev pub named_by : ℕ → found.Reference → Resolved
named_by t r = pick (t == 1) (read_of r) (pick (t == 7) (v_idx (array_of r)) (pick (t == 8) (v_len (array_of r)) (pick (t == 12) (set_of r) (pick (t == 13) (v_store (wide r) (array_of r)) (pass_of r)))))

-- whether a name stands in it that is read, set or passed on
abbrev pub is_value_name : ℕ → Bool
is_value_name n = ((((n == 1 || n == 7) || n == 8) || n == 12) || n == 13) || n == 26

-- without a name: the tag, and whether a number or an operator follows it
abbrev pub plain_tag_of : ℕ → ℕ
plain_tag_of n = pick (n == 0) 0 (pick (n == 2) 5 (pick (n == 6) 6 (pick (nat_lt n 6) (n + 4) (pick (n == 11) 14 (pick (nat_lt n 25) (n + 5) 30)))))

abbrev pub has_value : ℕ → Bool
has_value n = (n == 0 || n == 2) || n == 6

-- whether it is a call of a function or by a table
abbrev pub is_call : ℕ → Bool
is_call n = n == 9 || n == 10

-- the code's nodes as the specification's
abbrev pub array_seen : Array → Opnd
array_seen (Top a) = o_top a
array_seen (Own a) = o_own a

abbrev pub seen : code.Resolved → Resolved
seen (variant.Num n) = v_num n
seen (variant.Own n) = v_own n
seen (variant.Copy n) = v_copy n
seen (variant.Get n) = v_get n
seen (variant.Pass a) = v_arr (array_seen a)
seen (variant.Bin n) = v_bin n
seen (variant.Un n) = v_un n
seen variant.And = v_and
seen variant.Or = v_or
seen variant.Join = v_join
seen (variant.Idx a) = v_idx (array_seen a)
seen (variant.Len a) = v_len (array_seen a)
seen (variant.Call f n) = v_call f n
seen (variant.By f n) = v_by f n
seen variant.In = v_in
seen (variant.Set n) = v_set n
seen (variant.SetWord n) = v_setw n
seen variant.Clear = v_clear
seen (variant.Store w a) = v_store w (array_seen a)
seen variant.Ex = v_ex
seen variant.Out = v_out
seen variant.If = v_if
seen variant.Else = v_else
seen variant.Fi = v_fi
seen variant.Loop = v_loop
seen variant.While = v_while
seen variant.Again = v_again
seen variant.Ret = v_ret
seen variant.Break = v_break
seen variant.Next = v_next
seen variant.End = v_end
