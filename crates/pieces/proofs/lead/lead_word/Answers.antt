-- Proof of `lead_word`.
use Rattle.std.proofs.Common.{refl}
use Rattle.pieces.specs.declared.lead.Lead.TheVariants.{Out, If, While, Return, Break, Next}
use Rattle.pieces.proofs.Leading.{leads-name, leads_at, leads-other}
use Rattle.pieces.proofs.Naming.{same-told}
use Rattle.pieces.proofs.lead.lead_word.Goals as goal

pub returns-then-is_name : goal.returns-then-is_name
returns-then-is_name c = leads-name c.args.w c.if-is_name.ensures

pub returns-then-eq : goal.returns-then-eq
returns-then-eq c = leads_at c.args.w.now _ Out c.if-eq.ensures refl refl tt

pub returns-then-eq-2 : goal.returns-then-eq-2
returns-then-eq-2 c = leads_at c.args.w.now _ If c.if-eq-2.ensures refl refl tt

pub returns-then-eq-3 : goal.returns-then-eq-3
returns-then-eq-3 c = leads_at c.args.w.now _ While c.if-eq-3.ensures refl refl tt

pub returns-then-eq-4 : goal.returns-then-eq-4
returns-then-eq-4 c = leads_at c.args.w.now _ Return c.if-eq-4.ensures refl refl tt

pub returns-then-eq-5 : goal.returns-then-eq-5
returns-then-eq-5 c = leads_at c.args.w.now _ Break c.if-eq-5.ensures refl refl tt

pub returns-then-eq-6 : goal.returns-then-eq-6
returns-then-eq-6 c = leads_at c.args.w.now _ Next c.if-eq-6.ensures refl refl tt

pub returns : goal.returns
returns c =
    let w = c.args.w.now in
    leads-other w c.if-is_name.ensures (rw (same-told w _ c.if-eq.ensures, same-told w _ c.if-eq-2.ensures, same-told w _ c.if-eq-3.ensures, same-told w _ c.if-eq-4.ensures, same-told w _ c.if-eq-5.ensures, same-told w _ c.if-eq-6.ensures))
