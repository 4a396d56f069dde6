use Rattle.resolver.specs.Sound.{Sound}
use Rattle.resolver.proofs.Walking.{lent_none, lent-more, lent-pushed}
use Rattle.resolver.proofs.Programs.{program_pushed}
use Rattle.resolver.proofs.resolve_program.Goals as goal

pub returns : goal.returns
returns c = record {
  lent = lent-more (lent-pushed (lent-more (lent-pushed (lent_none c.args.out.now) c.push_all.ensures) c.push_files.ensures.lent) c.push.ensures) c.push_files-2.ensures.lent;
  pushed = λ p e r l.
      let so : Sound c.args.row.now p = record { is = e; right = r; short = l } in
      program_pushed so (c.count_files-words.ensures p e) (c.main_number.ensures p so) (c.count_files-functions.ensures p e) (c.count_files.ensures p e) c.word.ensures c.word-2.ensures c.word-3.ensures c.word-4.ensures c.push_all.ensures (c.push_files.ensures.pushed p so) c.push.ensures (c.push_files-2.ensures.pushed p so);
}
