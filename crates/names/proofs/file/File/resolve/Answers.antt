-- `resolve`: a name's own file first.
use Rattle.std.proofs.Common.{sym, subst}
use Rattle.names.specs.Finds.{Resolves}
use Rattle.names.proofs.Resolving.{resolve-own, resolve_used, resolve_none}
use Rattle.names.proofs.file.File.resolve.Goals as goal

pub returns-in-Some : goal.returns-in-Some
returns-in-Some c = λ p f hf. resolve-own p f c.args.name.now (c.in-Some.ensures p f hf)

pub returns-in_err-place : goal.returns-in_err-place
returns-in_err-place c = λ p f hf. subst (Resolves c.args.self.row.now p f c.args.name.now) (sym c.from_residual.ensures) (resolve_none p f c.args.name.now (c.in_default.ensures p f hf) (c.in_err-place.ensures p f hf))

pub returns : goal.returns
returns c = λ p f hf.
    let u = c.in_ok-place.ensures p f hf in
    resolve_used p f c.args.name.now (c.in_default.ensures p f hf) c.args.self.row.now u.name u.is c.find_top-2.result (c.find_top-2.ensures p u.name (record { row = hf.row; name = u.here }))
