-- Proof of `body`, `else_of`, `if_of`, `statement`, `while_of`.
use Rattle.std.proofs.Common.{refl}
use Rattle.std.proofs.lemmas.Result.{MatchResult-from_err}
use Rattle.language.specs.Syntax.{out1, ret1, break1, next1}
use Rattle.grammar.specs.Text.{pieces, gap}
use Rattle.pieces.specs.declared.lead.Lead.TheVariants.{Out, Return, Break, Next, Other}
use Rattle.pieces.proofs.Leading.{led_at}
use Rattle.bodies.proofs.Statements.{body-none, body-on, body-did, body-fail, stmt-nil, else_did, if_did, while_did, st_semi, st_out, st_ret, st_just, st_break, st_next, st_ex}
use Rattle.bodies.proofs.stmt.+statements.Goals as goal

pub body-loop-behind-init : goal.body-loop-behind-init
body-loop-behind-init t c = body-none c.args.text.now c.args.out.now

pub body-loop-behind-preserved : goal.body-loop-behind-preserved
body-loop-behind-preserved t c = body-on c.loop-behind.invariant c.in_default.ensures c.in_ok-rest.ensures

pub body-returns-in-Some : goal.body-returns-in-Some
body-returns-in-Some t c = body-did c.loop-behind.invariant c.in-Some.ensures

pub body-returns-then-at_end : goal.body-returns-then-at_end
body-returns-then-at_end t c = body-fail c.loop-behind.invariant c.in_default.ensures (stmt-nil (pieces gap c.loop-behind.rest.now) c.if-at_end.ensures)

pub body-returns-in_err-rest : goal.body-returns-in_err-rest
body-returns-in_err-rest t c = MatchResult-from_err c.from_residual.result _ _ c.from_residual.ensures.0 (λ y. body-fail c.loop-behind.invariant c.in_default.ensures c.in_err-rest.ensures)

pub else_of-returns-in_default : goal.else_of-returns-in_default
else_of-returns-in_default t c = else_did c.args.text.now c.args.out.now c.in_default.ensures

pub if_of-returns : goal.if_of-returns
if_of-returns t c = if_did c.in_ok-rest.ensures c.in_ok-rest-2.ensures c.put.ensures c.in_ok-rest-3.ensures c.put-2.ensures c.in_ok-rest-4.ensures c.put-3.ensures

pub while_of-returns : goal.while_of-returns
while_of-returns t c = while_did c.put.ensures c.in_ok-rest.ensures c.in_ok-rest-2.ensures c.put-2.ensures c.in_ok-rest-3.ensures c.put-3.ensures

pub statement-returns-in-Out : goal.statement-returns-in-Out
statement-returns-in-Out t c = st_semi c.args.out.now c.with_semi.new.out c.with_semi.result Out (led_at _ _ Out c.in-Out.is c.see_lead.ensures) out1 15 refl st_out c.with_semi.ensures

pub statement-returns-in-Return : goal.statement-returns-in-Return
statement-returns-in-Return t c = st_semi c.args.out.now c.with_semi-in-Return.new.out c.with_semi-in-Return.result Return (led_at _ _ Return c.in-Return.is c.see_lead.ensures) ret1 22 refl st_ret c.with_semi-in-Return.ensures

pub statement-returns-in-Break : goal.statement-returns-in-Break
statement-returns-in-Break t c = st_just c.args.out.now c.just_semi.new.out c.just_semi.result Break (led_at _ _ Break c.in-Break.is c.see_lead.ensures) break1 23 refl st_break c.just_semi.ensures

pub statement-returns-in-Next : goal.statement-returns-in-Next
statement-returns-in-Next t c = st_just c.args.out.now c.just_semi-in-Next.new.out c.just_semi-in-Next.result Next (led_at _ _ Next c.in-Next.is c.see_lead.ensures) next1 24 refl st_next c.just_semi-in-Next.ensures

pub statement-returns-in-Other : goal.statement-returns-in-Other
statement-returns-in-Other t c = st_ex c.args.text.now c.args.out.now c.with_semi-in-Other.new.out c.with_semi-in-Other.result (led_at c.args.text.now c.see_lead.result.1.now Other c.in-Other.is c.see_lead.ensures) c.with_semi-in-Other.ensures
