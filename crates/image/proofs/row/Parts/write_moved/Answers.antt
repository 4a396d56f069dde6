-- `write_moved`: one word moved (Rows).
use Rattle.std.proofs.Common.{length, sym, ◌∙◌, length-set}
use Rattle.image.proofs.Rows.{within-rest, placed-more}
use Rattle.image.proofs.row.Parts.write_moved.Goals as goal

pub loop-name-preserved : goal.loop-name-preserved
loop-name-preserved c =
    let named = c.args.self.now.moved.now in
    record {
      whole = sym (placed-more c.loop-name.words named c.args.by c.loop-name.name-index c.loop-name-test.true) ∙ c.loop-name.invariant.whole;
      inside = simp length-set (within-rest (length c.loop-name.words) named c.loop-name.name-index c.loop-name-test.true c.loop-name.invariant.inside);
    }
