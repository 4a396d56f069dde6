-- The nodes that the code has, as resolved nodes; which node three words are; and how many values wait behind a node.
use Rattle.std.specs.Prelude.{ℕ, ◌+◌, ◌-◌, ◌==◌, Result, Ok, Err}
use Rattle.language.specs.Syntax.{pick}
use Rattle.generator.specs.Resolved.{Resolved, v_num, v_own, v_copy, v_get, v_bin, v_un, v_and, v_or, v_join, v_call, v_set, v_setw, v_clear, v_ex, v_out, v_if, v_else, v_fi, v_loop, v_while, v_again, v_ret, v_break, v_next, v_end}
use Rattle.stepper.specs.declared.node.Node.{Node}
use Rattle.stepper.specs.declared.node.UnknownNode.{UnknownNode}
use Rattle.stepper.specs.declared.node.Node.TheVariants.{Num, Own, Copy, Get, Bin, Un, And, Or, Join, Call, Set, SetWord, Clear, Forget, Out, If, Else, Fi, Loop, While, Again, Ret, Break, Next, End}

abbrev pub meant : Node → Resolved
meant (Num n) = v_num n
meant (Own k) = v_own k
meant (Copy k) = v_copy k
meant (Get i) = v_get i
meant (Bin o) = v_bin o
meant (Un o) = v_un o
meant And = v_and
meant Or = v_or
meant Join = v_join
meant (Call f n) = v_call f n
meant (Set k) = v_set k
meant (SetWord i) = v_setw i
meant Clear = v_clear
meant Forget = v_ex
meant Out = v_out
meant If = v_if
meant Else = v_else
meant Fi = v_fi
meant Loop = v_loop
meant While = v_while
meant Again = v_again
meant Ret = v_ret
meant Break = v_break
meant Next = v_next
meant End = v_end

-- the node, or the tag that none has
abbrev pub decoded : ℕ → ℕ → ℕ → Result Node UnknownNode
decoded t x y =
    pick (t == 0) (Ok (Num x)) (pick (t == 1) (Ok (Own x)) (pick (t == 2) (Ok (Copy x)) (pick (t == 3) (Ok (Get x))
    (pick (t == 5) (Ok (Bin x)) (pick (t == 6) (Ok (Un x)) (pick (t == 7) (Ok And) (pick (t == 8) (Ok Or) (pick (t == 9) (Ok Join)
    (pick (t == 12) (Ok (Call x y)) (pick (t == 15) (Ok (Set x)) (pick (t == 16) (Ok (SetWord x)) (pick (t == 17) (Ok Clear) (pick (t == 19) (Ok Forget)
    (pick (t == 20) (Ok Out) (pick (t == 21) (Ok If) (pick (t == 22) (Ok Else) (pick (t == 23) (Ok Fi) (pick (t == 24) (Ok Loop)
    (pick (t == 25) (Ok While) (pick (t == 26) (Ok Again) (pick (t == 27) (Ok Ret) (pick (t == 28) (Ok Break) (pick (t == 29) (Ok Next)
    (pick (t == 30) (Ok End) (Err (record { 0 = t }))))))))))))))))))))))))))

-- how many values the definition of a function's places counts behind a node, of which h were counted before
abbrev pub counted : Node → ℕ → ℕ
counted (Num n) h = h + 1
counted (Own k) h = h + 1
counted (Copy k) h = h + 1
counted (Get i) h = h + 1
counted (Bin o) h = (h - 2) + 1
counted (Un o) h = (h - 1) + 1
counted And h = h - 1
counted Or h = h - 1
counted Join h = (h - 1) + 1
counted (Call f n) h = (h - n) + 1
counted (Set k) h = h - 1
counted (SetWord i) h = h - 1
counted Clear h = h - 1
counted Forget h = h - 1
counted Out h = h - 1
counted If h = h - 1
counted Else h = h
counted Fi h = h
counted Loop h = h
counted While h = h - 1
counted Again h = h
counted Ret h = h - 1
counted Break h = h
counted Next h = h
counted End h = h + 1
