-- `read`: what `check` answers, and the row of the resolved names.
use Rattle.std.proofs.Common.{◌≡◌, true, length, arith}
use Rattle.std.proofs.lemmas.Result.{err_from_is_err_and}
use Rattle.language.specs.Checks.{ok}
use Rattle.grammar.proofs.PieceKinds.{true_of}
use Rattle.grammar.proofs.Reading.{reading-sound}
use Rattle.bounds.proofs.NodesSize.{resolved-short}
use Rattle.front.proofs.Checked.{bytes-few, same-refusal}
use Rattle.front.proofs.read.Goals as goal

pub returns-in_err-accepted : goal.returns-in_err-accepted
returns-in_err-accepted c =
    let p = err_from_is_err_and c.from_residual.result c.from_residual.ensures.1 in
    rw (p.1, p.2) (same-refusal c.args.text.now (length c.args.work.now) _ c.in_err-accepted.ensures)

pub returns : goal.returns
returns c =
    let h = c.in_ok-accepted.ensures in
    let is = h.1 in
    let reads = reading-sound _ _ is.read_as in
    let is_ok : ok is.program ≡ true = true_of _ reads.sound in
    let short = resolved-short c.args.text.now is.program reads in (
      h.0,
      record {
        program = is.program;
        read_as = is.read_as;
        row_is = is.row_is;
        stage_is = is.stage_is;
        resolved_is = c.resolve_row-resolved.ensures.is is.program is.row_is is_ok (omega (arith, is.short, bytes-few c.args.text.now reads.small)) (omega (arith, h.0, h.2, short));
      },
      omega (arith, h.0, h.2),
    )
