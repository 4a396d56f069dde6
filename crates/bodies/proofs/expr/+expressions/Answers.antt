-- Proof of `arg`, `args`, `brackets`, `by_table`, `chain`, `climb`, `more_args`, `name`, `one`, `signed`.
use Rattle.std.proofs.Common.{◌∙◌, arith, rules}
use Rattle.std.proofs.lemmas.Result.{MatchResult-from_err}
use Rattle.pieces.specs.declared.seen.Look.TheVariants.{Num, Named, Minus, Before, OpenRound, Len, Call, In}
use Rattle.grammar.specs.Text.{pieces, gap}
use Rattle.pieces.specs.Seen.{unary_number}
use Rattle.pieces.proofs.Looking.{seen-any, seen_at}
use Rattle.rows.proofs.Writing.{wrote-more}
use Rattle.bodies.proofs.Expressions.{named_by, bind-fail, name-fail, started, num-did, one_none, signed-did, far_none, far-more, name-call, name-index, var-did, call-did, index-did, index_open, table-did, table_bare, args-fail, args_comma, args_of_more, args_none, args_more, args-all, args-refused, args-zero, args-some, args-some-fail, arg_did}
use Rattle.bodies.proofs.expr.+expressions.Goals as goal

-- arguments
pub arg-returns : goal.arg-returns
arg-returns t c = arg_did c.in_ok-rest.ensures c.mark_arg.ensures

pub args-returns-in-Some : goal.args-returns-in-Some
args-returns-in-Some t c = args-zero c.args.out.now c.in-Some.ensures

pub args-returns-in_err-rest : goal.args-returns-in_err-rest
args-returns-in_err-rest t c = MatchResult-from_err c.from_residual.result _ _ c.from_residual.ensures.0 (λ y. args_of_more (pieces gap c.args.text.now) c.in_default.ensures ∙ bind-fail _ c.in_err-rest.ensures)

pub args-returns-in_err-count : goal.args-returns-in_err-count
args-returns-in_err-count t c = MatchResult-from_err c.from_residual-in_err-count.result _ _ c.from_residual-in_err-count.ensures.0 (λ y. args-some-fail c.in_default.ensures c.in_ok-rest.ensures c.in_err-count.ensures.did)

pub args-returns : goal.args-returns
args-returns t c = args-some c.in_default.ensures c.in_ok-rest.ensures c.in_ok-count.ensures.did

pub more_args-loop-behind-init : goal.more_args-loop-behind-init
more_args-loop-behind-init t c = args_none c.args.text.now c.args.out.now

pub more_args-loop-behind-preserved : goal.more_args-loop-behind-preserved
more_args-loop-behind-preserved t c = args_more c.loop-behind.invariant c.in-Some-eat.ensures c.in_ok-rest.ensures

pub more_args-returns-in-Some : goal.more_args-returns-in-Some
more_args-returns-in-Some t c = let f = c.loop-behind.invariant.few in record { few = omega arith; did = args-all c.loop-behind.invariant c.in-Some.ensures }

pub more_args-returns-in_default-eat : goal.more_args-returns-in_default-eat
more_args-returns-in_default-eat t c = record { few = tt; did = args-refused c.loop-behind.invariant (args-fail (pieces gap c.loop-behind.rest.now) c.in_default.ensures c.in_default-eat.ensures) }

pub more_args-returns-in_err-rest : goal.more_args-returns-in_err-rest
more_args-returns-in_err-rest t c = record { few = search rules; did = MatchResult-from_err c.from_residual.result _ _ c.from_residual.ensures.0 (λ y. args-refused c.loop-behind.invariant (args_comma c.in-Some-eat.ensures ∙ bind-fail _ c.in_err-rest.ensures)) }

-- a call through a table
pub by_table-returns-in_err-x : goal.by_table-returns-in_err-x
by_table-returns-in_err-x t c = MatchResult-from_err c.from_residual.result _ _ c.from_residual.ensures.0 (λ y. name-fail (pieces gap c.args.text.now) _ c.in_err-x.ensures.0)

pub by_table-returns-in_err-rest-4 : goal.by_table-returns-in_err-rest-4
by_table-returns-in_err-rest-4 t c = MatchResult-from_err c.from_residual-in_err-rest-4.result _ _ c.from_residual-in_err-rest-4.ensures.0 (λ y. table_bare c.in_ok-x.x.now c.in_ok-x.ensures c.in_ok-rest.ensures c.in_ok-rest-2.ensures c.in_ok-rest-3.ensures c.in_err-rest-4.ensures.0)

pub by_table-returns : goal.by_table-returns
by_table-returns t c = table-did c.in_ok-x.x.now c.in_ok-x.ensures c.in_ok-rest.ensures c.in_ok-rest-2.ensures c.in_ok-rest-3.ensures c.in_ok-rest-4.ensures c.in_ok-count.ensures c.put_call.ensures

-- chains
pub chain-loop-op-init : goal.chain-loop-op-init
chain-loop-op-init t c = far_none c.args.level c.args.text.now c.args.out.now

pub chain-loop-op-preserved : goal.chain-loop-op-preserved
chain-loop-op-preserved t c = far-more c.in-Some.op c.loop-op.invariant c.in-Some.ensures (omega (arith, c.level-tight.ensures)) c.put_mid.ensures (rw c.level-tight.ensures at c.in_ok-rest.ensures) c.put_post.ensures

-- names
pub name-returns-in_err-count : goal.name-returns-in_err-count
name-returns-in_err-count t c = MatchResult-from_err c.from_residual.result _ _ c.from_residual.ensures.0 (λ y. name-call c.args.x.now c.in-Some.ensures ∙ bind-fail _ c.in_err-count.ensures)

pub name-returns-in-Some : goal.name-returns-in-Some
name-returns-in-Some t c = call-did c.args.x.now c.requires.some c.in-Some.ensures c.in_ok-count.ensures c.put_call.ensures

pub name-returns-in_err-rest : goal.name-returns-in_err-rest
name-returns-in_err-rest t c = MatchResult-from_err c.from_residual-in_err-rest.result _ _ c.from_residual-in_err-rest.ensures.0 (λ y. name-index c.args.x.now c.in-Some-eat.ensures ∙ bind-fail _ c.in_err-rest.ensures)

pub name-returns-in_err-rest-2 : goal.name-returns-in_err-rest-2
name-returns-in_err-rest-2 t c = MatchResult-from_err c.from_residual-in_err-rest-2.result _ _ c.from_residual-in_err-rest-2.ensures.0 (λ y. index_open c.args.x.now c.in-Some-eat.ensures c.in_ok-rest.ensures c.in_err-rest-2.ensures.0)

pub name-returns-in-Some-eat : goal.name-returns-in-Some-eat
name-returns-in-Some-eat t c = index-did c.args.x.now c.requires.some c.in-Some-eat.ensures c.in_ok-rest.ensures c.in_ok-rest-2.ensures c.put_named.ensures

pub name-returns : goal.name-returns
name-returns t c = var-did c.args.x.now c.requires.some c.in_default.ensures c.in_default-eat.ensures c.put_named-2.ensures

-- one
pub one-returns-in-Num : goal.one-returns-in-Num
one-returns-in-Num t c = num-did c.in-Num.n (seen_at _ _ (Num c.in-Num.n) c.in-Num.is c.see.ensures) (wrote-more c.put.ensures c.put_num.ensures)

pub one-returns-in-Named : goal.one-returns-in-Named
one-returns-in-Named t c = named_by c.args.out.now c.name.new.out c.in-Named.x (seen_at _ _ (Named c.in-Named.x) c.in-Named.is c.see.ensures) c.name.result c.name.ensures

pub one-returns-in-Minus : goal.one-returns-in-Minus
one-returns-in-Minus t c = let f = seen_at _ _ Minus c.in-Minus.is c.see.ensures in started c.args.out.now c.signed.new.out 2 Minus f c.signed.result (let h = f.some in omega arith) c.signed.ensures

pub one-returns-in-Before : goal.one-returns-in-Before
one-returns-in-Before t c = let f = seen_at _ _ (Before c.in-Before.op) c.in-Before.is c.see.ensures in started c.args.out.now c.signed-in-Before.new.out 2 (Before c.in-Before.op) f c.signed-in-Before.result (let h = f.some in omega arith) c.signed-in-Before.ensures

pub one-returns-in-OpenRound : goal.one-returns-in-OpenRound
one-returns-in-OpenRound t c = let f = seen_at _ _ OpenRound c.in-OpenRound.is c.see.ensures in started c.args.out.now c.brackets.new.out 0 OpenRound f c.brackets.result (omega arith) c.brackets.ensures

pub one-returns-in-Len : goal.one-returns-in-Len
one-returns-in-Len t c = let f = seen_at _ _ Len c.in-Len.is c.see.ensures in started c.args.out.now c.length_of.new.out 0 Len f c.length_of.result (omega arith) c.length_of.ensures

pub one-returns-in-Call : goal.one-returns-in-Call
one-returns-in-Call t c = let f = seen_at _ _ Call c.in-Call.is c.see.ensures in started c.args.out.now c.by_table.new.out 0 Call f c.by_table.result (omega arith) c.by_table.ensures

pub one-returns-in-In : goal.one-returns-in-In
one-returns-in-In t c = let f = seen_at _ _ In c.in-In.is c.see.ensures in started c.args.out.now c.input.new.out 0 In f c.input.result (omega arith) c.input.ensures

pub one-returns-in_default : goal.one-returns-in_default
one-returns-in_default t c = one_none c.see.result.0 (seen-any c.see.result.0 c.see.ensures) c.in_default.not-Num c.in_default.not-Named c.in_default.not-Minus c.in_default.not-Before c.in_default.not-OpenRound c.in_default.not-Len c.in_default.not-Call c.in_default.not-In

pub signed-returns : goal.signed-returns
signed-returns t c = signed-did (unary_number c.args.op) c.in_ok-rest.ensures (rw (← c.from.ensures) c.put_all.ensures)
