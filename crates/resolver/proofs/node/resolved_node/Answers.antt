use Rattle.std.proofs.Common.{◌≡◌, ℕ, false, [], ◌∷◌, sym, ap, ◌∙◌, subst, arith}
use Rattle.language.specs.Syntax.{pick}
use Rattle.language.specs.Meaning.{as_table}
use Rattle.steps.specs.Generate.{scope, slots_of, number, fn_no}
use Rattle.names.specs.Refer.{meant}
use Rattle.resolver.specs.Sound.{Known}
use Rattle.rows.specs.NodeTags.{tag_no}
use Rattle.generator.specs.ResolvedRows.{node_words}
use Rattle.names.proofs.NodeEffects.{tag_is}
use Rattle.rows.specs.declared.tag.Tag.TheVariants.{Call, By}
use Rattle.rows.proofs.NodeRows.{node_tag}
use Rattle.rows.proofs.Tagging.{tag_same}
use Rattle.resolver.specs.Stands.{is_value_name, named_by, plain_tag_of, has_value}
use Rattle.resolver.proofs.NodeSorts.{no_call, call_words_are, table_words_are, named_words_are, plain_words_are}
use Rattle.resolver.proofs.node.resolved_node.Goals as goal

pub returns-in-Call : goal.returns-in-Call
returns-in-Call c = λ p f g t so ok at1 h k.
    let et = sym (tag_is t h) ∙ node_tag t h ∙ sym (ap tag_no (c.tag_at-tag.ensures t h)) ∙ ap tag_no c.in-Call.is in
    call_words_are p f g (omega arith) c.saturating_add-second.ensures c.saturating_add-third.ensures t so h k et c.word_at.ensures (omega arith) (λ x hx kx. subst (λ y. c.function_number.result ≡ fn_no p f y) (c.name_at.ensures x hx) (c.function_number.ensures p f so at1.file (subst (Known p f) (sym (c.name_at.ensures x hx)) kx))) (λ lm ln. ap (λ (n : ℕ). 12 ∷ n ∷ c.word_at.result ∷ []) (c.word.ensures lm))

pub returns-in-By : goal.returns-in-By
returns-in-By c = λ p f g t so ok at1 h k.
    let et = sym (tag_is t h) ∙ node_tag t h ∙ sym (ap tag_no (c.tag_at-tag.ensures t h)) ∙ ap tag_no c.in-By.is in
    table_words_are p f g (omega arith) c.saturating_add-second.ensures c.saturating_add-third.ensures t so h k et c.word_at-in-By.ensures (omega arith) (λ x hx kx. subst (λ y. c.table_number.result ≡ number as_table p f y) (c.name_at-in-By.ensures x hx) (c.table_number.ensures p f so at1.file (subst (Known p f) (sym (c.name_at-in-By.ensures x hx)) kx))) (λ lm ln. ap (λ (n : ℕ). 13 ∷ n ∷ c.word_at-in-By.result ∷ []) (c.word-in-By.ensures lm))

pub returns-then-names_value : goal.returns-then-names_value
returns-then-names_value c = λ p f g t so ok at1 h k.
    let et = ap tag_no (c.tag_at-tag.ensures t h) ∙ sym (node_tag t h) ∙ tag_is t h in
    let r = c.refer.result in
    named_words_are p f g (omega arith) c.saturating_add-second.ensures c.saturating_add-third.ensures t so ok h (sym (ap is_value_name et) ∙ sym c.if-names_value.ensures) (λ x hx. subst (λ y. r ≡ meant (scope p f (slots_of g)) y) (c.name_at-then-names_value.ensures x hx) (c.refer.ensures p f g at1)) (λ fits. ap node_words (c.named.ensures fits) ∙ ap (λ (n : ℕ). node_words (named_by n r)) et)

pub returns-else-names_value : goal.returns-else-names_value
returns-else-names_value c = λ p f g t so ok at1 h k.
    let tag = c.tag_at-tag.result in
    let et = ap tag_no (c.tag_at-tag.ensures t h) ∙ sym (node_tag t h) ∙ tag_is t h in
    let n9 : tag_no tag ≡ 9 → ⊥ = λ e. c.in_default.not-Call (tag_same tag Call e) in
    let n10 : tag_no tag ≡ 10 → ⊥ = λ e. c.in_default.not-By (tag_same tag By e) in
    let nv : is_value_name (tag_no tag) ≡ false = sym c.names_value.ensures ∙ c.if-names_value.false in
    let v = c.word_at-else-names_value.result in
    plain_words_are p f g (omega arith) c.saturating_add-second.ensures c.saturating_add-third.ensures t h k (λ q. n9 (et ∙ q)) (λ q. n10 (et ∙ q)) (sym (ap is_value_name et) ∙ nv) c.word_at-else-names_value.ensures (omega arith) (λ l. c.plain.ensures nv (no_call n9 n10) ∙ ap (λ (n : ℕ). plain_tag_of n ∷ pick (has_value n) v 0 ∷ 0 ∷ []) et)
