use Rattle.std.proofs.Common.{◌≡◌, suc, ◌+◌, [], ◌∷◌, ap, ◌∙◌, arith}
use Rattle.lower.specs.Code.{rel, off}
use Rattle.lower.specs.Lower.{loads}
use Rattle.processor.specs.declared.instr.Instr.TheVariants.{Jal, Sw}
use Rattle.assembler.specs.Emission.{reals}
use Rattle.assembler.proofs.Putting.{put_then, put-more, put_as, put_as1, reals-length}
use Rattle.assembler.proofs.Rows.{loads-long}
use Rattle.assembler.proofs.code.Code.call.Goals as goal

pub returns : goal.returns
returns c h =
    let k = c.args.from.0 in
    let n = c.args.count in
    let here = c.args.self.now.here in
    let e : c.min.result ≡ n = omega arith in
    put_then (reals 0 (loads 10 k n)) (Jal 1 (rel (here + n) c.args.entry.0) ∷ Sw 2 10 (off (suc c.args.to.0)) ∷ [])
    (put_as (ap (λ x. reals 0 (loads 10 k x)) e) c.load_arguments.ensures)
    (put-more c.jump.ensures (put_as1 c.store.ensures.is c.put.ensures))
    (λ q. ap (λ x. Jal 1 (rel x c.args.entry.0) ∷ Sw 2 10 (off (suc c.args.to.0)) ∷ []) (q ∙ ap (λ x. here + x) (reals-length 0 (loads 10 k n) ∙ loads-long 10 k n)))
