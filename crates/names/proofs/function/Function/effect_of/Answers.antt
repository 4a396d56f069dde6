use Rattle.std.proofs.Common.{◌≡◌, ℕ, [], sym, refl, ap, ◌∙◌, subst, arith}
use Rattle.std.specs.Prelude.{None}
use Rattle.std.specs.declared.option.Option as std
use Rattle.rows.specs.declared.kind.LocalKind.{LocalKind}
use Rattle.names.specs.declared.asking.Effect.{Effect}
use Rattle.names.specs.Fold.{ctx}
use Rattle.names.specs.Effects.{takes, gives, suits, stands, wants_kind, MayDo, MayAsk}
use Rattle.names.specs.Kinds.{kind_found}
use Rattle.rows.specs.NodeTags.{tag_no}
use Rattle.rows.specs.declared.tag.Tag.TheVariants.{Call, By}
use Rattle.rows.proofs.NodeRows.{node_tag}
use Rattle.rows.proofs.Tagging.{tag_same}
use Rattle.names.proofs.NodeEffects.{tag_is, does-of, plain_node, named_node, call_node, table_node}
use Rattle.names.proofs.function.Function.effect_of.Goals as goal

pub returns-in-Call : goal.returns-in-Call
returns-in-Call c = λ p f g t v h.
    let et = sym (tag_is t h) ∙ node_tag t h ∙ sym (ap tag_no (c.tag_at-tag.ensures t h)) ∙ ap tag_no c.in-Call.is in
    call_node (ctx p f g) (omega arith) c.saturating_add-second.ensures c.saturating_add-third.ensures c.args.depth c.call_with.result c.at.result t h et c.at.ensures.is (λ x hx. subst (λ y. MayAsk c.args.self.file.row.now ((ctx p f g).params y) c.at.result 0 c.call_with.result) (c.name_at.ensures x hx) (c.call_with.ensures c.args.self.file.row.now _ (c.params_of.ensures p f g v)))

pub returns-in-By : goal.returns-in-By
returns-in-By c = λ p f g t v h.
    let et = sym (tag_is t h) ∙ node_tag t h ∙ sym (ap tag_no (c.tag_at-tag.ensures t h)) ∙ ap tag_no c.in-By.is in
    table_node (ctx p f g) (omega arith) c.saturating_add-second.ensures c.saturating_add-third.ensures c.args.depth c.call_with-in-By.result c.at-in-By.result t h et c.at-in-By.ensures.is (λ x hx. subst (λ y. MayAsk c.args.self.file.row.now ((ctx p f g).table y) c.at-in-By.result 1 c.call_with-in-By.result) (c.name_at-in-By.ensures x hx) (c.call_with-in-By.ensures c.args.self.file.row.now _ (c.params_of_table.ensures p f g v)))

pub returns-then-has_kind : goal.returns-then-has_kind
returns-then-has_kind c = λ p f g t v h.
    let et = ap tag_no (c.tag_at-tag.ensures t h) ∙ sym (node_tag t h) ∙ tag_is t h in
    let k = c.kind_of-kind.result in
    let d = c.args.depth in
    subst (λ (r : std.Option Effect). MayDo c.args.self.file.row.now (ctx p f g) d t r) (sym c.then_some.ensures) (does-of c.args.self.file.row.now (ctx p f g) d c.new-params.result t (c.kind_suits.ensures ∙ ap (λ (n : ℕ). suits n k) et) (c.takes_of-words.ensures ∙ ap takes et) (c.gives_of-gives.ensures ∙ ap (λ (n : ℕ). gives n k) et) (named_node (c.new-params.ensures.left [] (record { rest = c.args.self.file.row.now; is = refl; inside = omega arith }) refl) (ctx p f g) (omega arith) c.saturating_add-second.ensures c.saturating_add-third.ensures d k t (λ x hx. subst (λ y. c.kind_of-kind.result ≡ kind_found ((ctx p f g).kind y)) (c.name_at-then-has_kind.ensures x hx) (c.kind_of-kind.ensures p f g v)) h (sym (ap wants_kind et) ∙ sym c.if-has_kind.ensures)))

pub returns-else-has_kind : goal.returns-else-has_kind
returns-else-has_kind c = λ p f g t v h.
    let tag = c.tag_at-tag.result in
    let et = ap tag_no (c.tag_at-tag.ensures t h) ∙ sym (node_tag t h) ∙ tag_is t h in
    let n9 : tag_no tag ≡ 9 → ⊥ = λ q. c.in_default.not-Call (tag_same tag Call q) in
    let n10 : tag_no tag ≡ 10 → ⊥ = λ q. c.in_default.not-By (tag_same tag By q) in
    let d = c.args.depth in
    let high = c.at-else-has_kind.result in
    let none : std.Option LocalKind = None in
    subst (λ (r : std.Option Effect). MayDo c.args.self.file.row.now (ctx p f g) d t r) (sym c.then_some-else-has_kind.ensures) (does-of c.args.self.file.row.now (ctx p f g) d c.new-params.result t (c.may_stand.ensures ∙ ap (λ (n : ℕ). stands n high d) et) (c.takes_of-words.ensures ∙ ap takes et) (c.gives_of-gives-else-has_kind.ensures ∙ ap (λ (n : ℕ). gives n none) et) (plain_node (c.new-params.ensures.left [] (record { rest = c.args.self.file.row.now; is = refl; inside = omega arith }) refl) (ctx p f g) (omega arith) c.saturating_add-second.ensures c.saturating_add-third.ensures d high none t c.at-else-has_kind.ensures.is h (sym (ap wants_kind et) ∙ sym c.if-has_kind.ensures) (λ q. n9 (et ∙ q)) (λ q. n10 (et ∙ q))))
