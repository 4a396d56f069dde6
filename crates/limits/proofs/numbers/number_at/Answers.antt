-- `number_at`: the number that two digits give.
use Rattle.std.proofs.Common.{◌≡◌, ◌/◌, ◌%◌, ◌∙◌, arith}
use Rattle.rows.proofs.Having.{has_word, read_at}
use Rattle.limits.proofs.numbers.number_at.Goals as goal

pub returns : goal.returns
returns c = λ n h.
    let low : c.at-low.result ≡ n % 4294967296 = c.at-low.ensures.is ∙ has_word h in
    let high : c.at-high.result ≡ n / 4294967296 = read_at {k = 1} h (omega arith) (omega arith) c.saturating_add.ensures c.at-high.ensures.is in
    omega arith
