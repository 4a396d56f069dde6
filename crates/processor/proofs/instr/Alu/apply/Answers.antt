use Rattle.std.proofs.Common.{rules}
use Rattle.processor.proofs.WordBits.{and_is, or_is, xor_is}
use Rattle.processor.proofs.instr.Alu.apply.Goals as goal

pub returns-in-Xor : goal.returns-in-Xor
returns-in-Xor c = search (rules, xor_is)

pub returns-in-Or : goal.returns-in-Or
returns-in-Or c = search (rules, or_is)

pub returns-in-And : goal.returns-in-And
returns-in-And c = search (rules, and_is)
