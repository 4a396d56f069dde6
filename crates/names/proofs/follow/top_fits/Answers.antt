-- `top_fits`: enough kinds, words under those of the parameters.
use Rattle.std.proofs.Common.{◌≡◌, ◌+◌, ◌-◌, length, take, drop, ap, ◌∙◌, arith}
use Rattle.rows.specs.Trees.{kind_no}
use Rattle.names.proofs.NameKinds.{map-length}
use Rattle.names.proofs.Piles.{cut, fits-so}
use Rattle.names.proofs.follow.top_fits.Goals as goal

pub returns : goal.returns
returns c = λ ls st k e.
    let l = ap length e ∙ map-length kind_no st in
    let m : length c.args.pile.now - c.saturating_add-wanted.result ≡ length st - (c.args.e.words + length ls) = omega (arith, l, k.long, c.len.ensures, c.saturating_add-wanted.ensures) in
    fits-so ls st c.args.e.words e (omega (arith, l, k.long, c.len.ensures, c.saturating_add-wanted.ensures)) (c.split_at.ensures.front ∙ ap (take c.args.e.words) (cut (length c.args.pile.now - c.saturating_add-wanted.result) c.args.pile.now) ∙ ap (λ n. take c.args.e.words (drop n c.args.pile.now)) m) (c.split_at.ensures.back ∙ ap (drop c.args.e.words) (cut (length c.args.pile.now - c.saturating_add-wanted.result) c.args.pile.now) ∙ ap (λ n. drop c.args.e.words (drop n c.args.pile.now)) m) c.are_words.ensures (λ ks q. c.are_kinds.ensures ls ks k q)
