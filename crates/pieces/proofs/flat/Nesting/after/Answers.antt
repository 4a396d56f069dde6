-- Proof of `after`.
use Rattle.pieces.proofs.Flatness.{quiet, open_quiet, signs_quiet}
use Rattle.pieces.proofs.flat.Nesting.after.Goals as goal

pub returns-in_default : goal.returns-in_default
returns-in_default c =
    let q = quiet c.args.piece c.requires.sane c.in_default.not-Sign in
    record { brackets = open_quiet c.args.piece c.args.self.brackets q; signs = signs_quiet c.args.piece c.args.self.signs q }
