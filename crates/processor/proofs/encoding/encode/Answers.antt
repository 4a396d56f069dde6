use Rattle.std.proofs.Common.{ℕ, ap, ◌∙◌}
use Rattle.processor.specs.Machine.{does}
use Rattle.processor.specs.Decode.{decode}
use Rattle.processor.proofs.Coded.{decode-encode, does-encode}
use Rattle.processor.proofs.encoding.encode.Goals as goal

pub returns-clause-means : goal.returns-clause-means
returns-clause-means c m = ap (λ (w : ℕ). does m w) c.lay_out_parts.ensures ∙ does-encode m c.args.i c.requires

pub returns-clause-back : goal.returns-clause-back
returns-clause-back c = ap decode c.lay_out_parts.ensures ∙ decode-encode c.args.i c.requires
