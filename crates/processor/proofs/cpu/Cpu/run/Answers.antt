use Rattle.std.proofs.Common.{◌+◌, [], ◌∙◌, arith}
use Rattle.std.proofs.lemmas.List.{nil_from_length}
use Rattle.processor.specs.Promise.{machine}
use Rattle.processor.specs.declared.cpu.Event.TheVariants.{Out, Halts}
use Rattle.processor.proofs.Turns.{stop_at, stop_last, to, turn_goes, turn_out, turn_some, turn_none}
use Rattle.processor.proofs.cpu.Cpu.run.Goals as goal
use Rattle.processor.proofs.cpu.Cpu.run.Goals.{in-Goes, in-Out+else-shown-output, in-In+in-Some, in-In+in-None}

pub returns-then-shown-output : goal.returns-then-shown-output
returns-then-shown-output c =
    stop_at _ _ _ _ _ c.loop-k.k c.loop-k.left c.loop-k.shown c.loop-k.output c.loop-k.self c.step.new.self c.loop-k.mem c.step.new.mem c.loop-k.invariant
    (Out c.in-Out.x) (omega arith) c.in-Out.ensures (c.if-shown-output.true ∙ c.loop-k.invariant.3)

pub returns-in-Halts : goal.returns-in-Halts
returns-in-Halts c =
    stop_at _ _ _ _ _ c.loop-k.k c.loop-k.left c.loop-k.shown c.loop-k.output c.loop-k.self c.step.new.self c.loop-k.mem c.step.new.mem c.loop-k.invariant
    (Halts c.in-Halts.halt) (omega arith) c.in-Halts.ensures tt

pub returns : goal.returns
returns c = stop_last _ _ _ _ _ c.loop-k.k c.loop-k.left c.loop-k.shown c.loop-k.output c.loop-k.self c.loop-k.self c.loop-k.mem c.loop-k.mem c.loop-k.invariant (omega arith)

pub loop-k-preserved : goal.loop-k-preserved
loop-k-preserved c =
    let m = machine c.args.input.now [] c.args.self.now c.args.mem.now in
    let k = c.loop-k.k in
    let input = c.args.input.now in
    let room = c.args.output.now in
    let l = c.loop-k.left.now in
    let s = c.loop-k.shown in
    let out = c.loop-k.output in
    let c0 = c.loop-k.self in
    let c1 = c.step.new.self in
    let mem = c.loop-k.mem in
    let mem1 = c.step.new.mem in
    elim c.match-step.branch [
      | in-Goes w ↦ to m (k + 1) input room _ _ _ _ _ _ _ _ mem1 w.left-is w.shown-is w.output-is w.self-is
          (turn_goes m k input room l s out c0 c1 c1 mem mem1 c.loop-k.invariant w.in-Goes.ensures)
      | in-Out+else-shown-output w ↦ to m (k + 1) input room _ _ _ _ _ _ _ _ mem1 w.left-is w.shown-is w.output-is w.self-is
          (turn_out m k input room l s out c0 c1 c1 mem mem1 c.loop-k.invariant w.in-Out.x w.in-Out.ensures w.if-shown-output.false)
      | in-In+in-Some w ↦ to m (k + 1) input room _ _ _ _ _ _ _ _ mem1 w.left-is w.shown-is w.output-is w.self-is
          (turn_some m k input room l s out c0 c1 w.answer.new.self mem mem1 c.loop-k.invariant w.in-Some.x.now w.in-Some.rest.now w.in-In.ensures w.in-Some.ensures.cases.0 w.answer.ensures)
      | in-In+in-None w ↦ to m (k + 1) input room _ _ _ _ _ _ _ _ mem1 w.left-is w.shown-is w.output-is w.self-is
          (turn_none m k input room l s out c0 c1 w.answer-in-None.new.self mem mem1 c.loop-k.invariant w.in-In.ensures (nil_from_length _ w.in-None.ensures.cases) w.answer-in-None.ensures)
    ]
