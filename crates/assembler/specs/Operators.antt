-- The operators that the code has, as those of the lowering.
use Rattle.lower.specs.Lower.{Op, o_add, o_sub, o_mul, o_div, o_rem, o_eq, o_ne, o_lt, o_le, o_gt, o_ge, o_and, o_or, o_xor, o_shl, o_shr, Op1, u_neg, u_not, u_inv, u_flag}
use Rattle.assembler.specs.declared.operator.Two.{Two}
use Rattle.assembler.specs.declared.operator.Two.TheVariants as t
use Rattle.assembler.specs.declared.operator.One.{One}
use Rattle.assembler.specs.declared.operator.One.TheVariants as o

abbrev pub two : Two → Op
two t.Add = o_add
two t.Sub = o_sub
two t.Mul = o_mul
two t.Div = o_div
two t.Rem = o_rem
two t.Eq = o_eq
two t.Ne = o_ne
two t.Lt = o_lt
two t.Le = o_le
two t.Gt = o_gt
two t.Ge = o_ge
two t.And = o_and
two t.Or = o_or
two t.Xor = o_xor
two t.Shl = o_shl
two t.Shr = o_shr

abbrev pub one : One → Op1
one o.Neg = u_neg
one o.Not = u_not
one o.Inv = u_inv
one o.Flag = u_flag
