-- `Entries::have`: a name among those of entries, one by one.
use Rattle.std.proofs.Common.{refl, sym, subst, arith, rules}
use Rattle.language.specs.Syntax.{same, listed}
use Rattle.rows.specs.Trees.{map_list}
use Rattle.limits.specs.Entries.{Left, NamesAt}
use Rattle.limits.proofs.EntryLaws.{any_is, in_lent, name_near}
use Rattle.limits.proofs.entries.Entries.have.Goals as goal

pub returns : goal.returns
returns g c = λ w ts name_of k at.
    let x = c.args.name.now in
    let at_lent : NamesAt g.E.Entry.row_of name_of c.args.self.row.now c.args.offset = subst (λ u. NamesAt g.E.Entry.row_of name_of u c.args.offset) (sym k.lent) at in
    let near = name_near c.args.offset (omega arith) at_lent in
    any_is (Left g.E.Entry.row_of) (λ t. same (name_of t) x) (λ t j b f' ht q. let n = near t j in search rules)
    (λ vs. listed x (map_list name_of vs)) refl (λ t vs. refl) (in_lent k) c.any.ensures.ran
