-- `count_words`: name by name.
use Rattle.std.proofs.Common.{◌≡◌, ◌+◌, min, arith, rules}
use Rattle.language.specs.Syntax.{k_word}
use Rattle.language.specs.Words.{bit}
use Rattle.language.specs.Checks.{same_k}
use Rattle.rows.specs.Trees.{Local, local_row}
use Rattle.steps.specs.Generate.{words_of}
use Rattle.limits.specs.Entries.{Left}
use Rattle.limits.proofs.EntryLaws.{fold_is}
use Rattle.names.specs.Finds.{slots_in}
use Rattle.resolver.proofs.Locals.{word_step, words_few}
use Rattle.resolver.proofs.function.count_words.Goals as goal

pub returns : goal.returns
returns c = λ ls k.
    omega (
      arith,
      fold_is (Left local_row) (λ (l : Local). bit (same_k l.kind k_word)) (λ a n. min (a + n) 18446744073709551615) (λ a b l j f' h q. search rules)
          (λ a us. a + words_of (slots_in us) ≡ words_of (slots_in ls)) (λ a l us p. omega (arith, p, word_step l us, words_few ls, k.long)) k (omega arith) c.fold.ensures.ran,
    )
