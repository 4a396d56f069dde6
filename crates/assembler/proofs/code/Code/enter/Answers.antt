use Rattle.std.proofs.Common.{◌≡◌, ◌+◌, [], ◌∷◌, ap, arith, rules}
use Rattle.lower.specs.Lower.{stores}
use Rattle.processor.specs.declared.instr.Cond.TheVariants.{Bgeu}
use Rattle.processor.specs.declared.instr.Alu.TheVariants.{Sub}
use Rattle.processor.specs.declared.instr.Instr.TheVariants.{Branch, Ecall, Op, Sw}
use Rattle.assembler.specs.Emission.{reals}
use Rattle.assembler.proofs.Putting.{put-more, put_as, put_as1}
use Rattle.assembler.proofs.Rows.{frame-number, entered}
use Rattle.assembler.proofs.code.Code.enter.Goals as goal

pub returns : goal.returns
returns c h =
    let f = c.args.f in
    let e : c.min.result ≡ f.params = omega arith in
    put_as (entered f.places f.params f.vars)
    (put-more c.put_all.ensures
    (put-more (put_as (frame-number 6 f.places _ (search rules)) c.number.ensures)
    (put-more (put_as (ap (λ i. Branch Bgeu 5 6 12 ∷ i ∷ Ecall ∷ Op Sub 2 2 6 ∷ Sw 2 1 4294965248 ∷ []) c.small.ensures) c.put_all-2.ensures)
    (put-more (put_as (ap (λ n. reals 0 (stores (λ j. 10 + j) 0 n)) e) c.store_arguments.ensures)
    (put-more (put_as1 c.small-2.ensures c.put.ensures) c.clear.ensures)))))
