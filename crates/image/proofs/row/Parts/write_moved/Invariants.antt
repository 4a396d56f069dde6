-- `write_moved`: the words still named, moved, give the whole; each of them is there.
use Rattle.std.proofs.Common.{◌≡◌, T, length, drop}
use Rattle.image.specs.Image.{within, placed}
use Rattle.image.proofs.row.Parts.write_moved.Given as goal

abbrev pub invariant-loop-name : goal.invariant-loop-name
invariant-loop-name l = record {
  whole : placed l.words (drop l.name-index l.self.moved.now) l.by ≡ placed l.self.body.now l.self.moved.now l.by;
  inside : T (within (length l.words) (drop l.name-index l.self.moved.now));
}
