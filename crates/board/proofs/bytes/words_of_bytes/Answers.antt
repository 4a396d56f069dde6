use Rattle.std.proofs.Common.{◌≡◌, ◌/◌, ◌%◌, length, map, ap, ◌∙◌, arith, rules}
use Rattle.std.specs.Int.{from_le_bytes, w32}
use Rattle.std.proofs.iter.runs.Made.{chains}
use Rattle.board.specs.Bytes.{bytes}
use Rattle.board.proofs.FourBytes.{bytes-words}
use Rattle.board.proofs.bytes.words_of_bytes.Goals as goal

pub returns : goal.returns
returns c =
    let xs = c.args.bytes.now in
    let made : c.in_ok-words.words.items ≡ map (from_le_bytes w32) c.as_chunks.result.0.now = search (rules, chains) in
    let rest : length c.as_chunks.result.1.now ≡ length xs % 4 = c.as_chunks.ensures.back_len in
    let none : length c.as_chunks.result.1.now ≡ 0 = grind arith in
    ap bytes (made ∙ ap (map (from_le_bytes w32)) c.as_chunks.ensures.front)
    ∙ bytes-words (length xs / 4) xs (λ i. omega (arith, c.type_inv.bytes i)) (omega arith)
