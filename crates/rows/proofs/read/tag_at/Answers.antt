use Rattle.std.proofs.Common.{◌∙◌}
use Rattle.rows.specs.declared.tag.Tag.TheVariants.{End}
use Rattle.rows.specs.NodeTags.{tag_of}
use Rattle.rows.proofs.NodeRows.{node_tag}
use Rattle.rows.proofs.Tagging.{tag_read}
use Rattle.rows.proofs.read.tag_at.Goals as goal

pub returns : goal.returns
returns c = λ t h. c.unwrap_or.ensures ∙ tag_read c.try_from.result (tag_of t) End c.try_from.ensures (c.word_at.ensures ∙ node_tag t h)
