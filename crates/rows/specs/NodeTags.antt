-- A node's tag and its number, and how long a node's row is by it: the words before a name, and whether there is a name.
use Rattle.std.specs.Prelude.{◌≡◌, ℕ, ◌<◌, Bool, ◌||◌, ◌==◌, Result, MatchResult}
use Rattle.language.specs.Syntax.{pick}
use Rattle.rows.specs.declared.tag.Tag.{Tag}
use Rattle.rows.specs.declared.tag.NoTag.{NoTag}
use Rattle.rows.specs.declared.tag.Tag.TheVariants.{Num, Var, Bin, And, Or, Join, Un, Idx, Len, Call, By, In, Set, Store, Ex, Out, If, Else, Fi, Loop, While, Again, Ret, Break, Next, End, Arg}
use Rattle.rows.specs.Nodes.{Node, n_num, n_var, n_bin, n_and, n_or, n_join, n_un, n_idx, n_len, n_call, n_by, n_in, n_set, n_store, n_ex, n_out, n_if, n_else, n_fi, n_loop, n_while, n_again, n_ret, n_break, n_next, n_end, n_arg}

abbrev pub lead : ℕ → ℕ
lead n = pick (n == 0) 3 (pick (((n == 2 || n == 6) || n == 9) || n == 10) 2 1)

abbrev pub has_name : ℕ → Bool
has_name n = ((((((n == 1 || n == 7) || n == 8) || n == 9) || n == 10) || n == 12) || n == 13) || n == 26

abbrev pub tag_no : Tag → ℕ
tag_no Num = 0
tag_no Var = 1
tag_no Bin = 2
tag_no And = 3
tag_no Or = 4
tag_no Join = 5
tag_no Un = 6
tag_no Idx = 7
tag_no Len = 8
tag_no Call = 9
tag_no By = 10
tag_no In = 11
tag_no Set = 12
tag_no Store = 13
tag_no Ex = 14
tag_no Out = 15
tag_no If = 16
tag_no Else = 17
tag_no Fi = 18
tag_no Loop = 19
tag_no While = 20
tag_no Again = 21
tag_no Ret = 22
tag_no Break = 23
tag_no Next = 24
tag_no End = 25
tag_no Arg = 26

-- the tag with this number, or none has it
abbrev pub Numbers : ℕ → Result Tag NoTag → Type 0
Numbers n r = MatchResult r (λ tag. tag_no tag ≡ n) (λ e. (e.0 ≡ n) × (26 < n))

abbrev pub tag_of : Node → Tag
tag_of (n_num n) = Num
tag_of (n_var x) = Var
tag_of (n_bin o) = Bin
tag_of n_and = And
tag_of n_or = Or
tag_of n_join = Join
tag_of (n_un o) = Un
tag_of (n_idx x) = Idx
tag_of (n_len x) = Len
tag_of (n_call n x) = Call
tag_of (n_by n x) = By
tag_of n_in = In
tag_of (n_set x) = Set
tag_of (n_store x) = Store
tag_of n_ex = Ex
tag_of n_out = Out
tag_of n_if = If
tag_of n_else = Else
tag_of n_fi = Fi
tag_of n_loop = Loop
tag_of n_while = While
tag_of n_again = Again
tag_of n_ret = Ret
tag_of n_break = Break
tag_of n_next = Next
tag_of n_end = End
tag_of (n_arg x) = Arg
