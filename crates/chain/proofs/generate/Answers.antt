-- `generate`: the layers from resolved names to the image.
use Rattle.std.proofs.Common.{length, sym, ap, ◌∙◌, subst, arith}
use Rattle.image.specs.Image.{row}
use Rattle.lower.specs.Lower.{image_of, code_words}
use Rattle.lower.specs.Core.{Core}
use Rattle.assembler.specs.Assembled.{Assembled}
use Rattle.stepper.specs.Bodies.{Suits}
use Rattle.steps.specs.Generate.{gen_prog}
use Rattle.generator.specs.ResolvedRows.{resolve_prog}
use Rattle.bounds.proofs.Made.{made-right}
use Rattle.bounds.proofs.StepsSize.{steps-short}
use Rattle.bounds.proofs.CoreNodes.{core-nodes}
use Rattle.bounds.proofs.CoreSteps.{core_programs}
use Rattle.chain.proofs.Layers.{pile-wide, bases_low, resolved-small, front-is, head-is}
use Rattle.chain.proofs.generate.Goals as goal

pub returns : goal.returns
returns c = λ t p reads core e room.
    let long = steps-short t p reads in
    let front = c.in_ok-work.ensures.cases.1 in
    let back = c.in_ok-work.ensures.cases.4 in
    let suits : Suits c.args.resolved.now (resolve_prog p) _ = record { is = e; core = core-nodes t p reads core; piles = pile-wide t p _ reads (omega arith); small = bases_low t p _ reads core (omega arith); short = resolved-small t p _ reads e } in
    let made = c.steps_row-n.ensures.is (resolve_prog p) suits (omega (arith, ap length (made-right p), long, room)) ∙ made-right p in
    let steps = front-is _ c.split_at_mut-steps.ensures.value c.split_at_mut-steps.ensures.front_len made in
    let head = head-is p e c.in_ok-words.ensures.cases.same in
    subst (λ i. Assembled (row i) c.args.image.now c.assemble.new.image c.assemble.result) (ap (λ m. image_of (gen_prog p) (code_words (gen_prog p) m)) head.main)
    (c.assemble.ensures (gen_prog p) (record { core = subst (Core (gen_prog p)) (sym head.main) (core_programs t p reads core); steps = steps; count = head.count; words = head.words }) (omega (arith, ap length steps, long, room)))
