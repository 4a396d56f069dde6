use Rattle.std.proofs.Common.{◌≡◌, ℕ, ◌+◌, length, get_or, ap, ◌∙◌, arith}
use Rattle.rows.specs.Trees.{rest_row}
use Rattle.rows.proofs.Having.{has_word, has-next}
use Rattle.rows.proofs.read.past_item.Goals as goal

pub returns : goal.returns
returns c = λ i h.
    let u : c.saturating_add.result ≡ c.args.item + 1 = omega (arith, h.inside) in
    let b : c.at.result ≡ length (rest_row i) = c.at.ensures.is ∙ ap (λ (n : ℕ). get_or c.args.row.now n 0) u ∙ has_word (has-next h) in
    omega (arith, h.inside)
