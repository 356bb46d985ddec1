use Rattle.std.proofs.Common.{ap, ◌∙◌, to_z-of_z}
use Rattle.text.specs.Fields.{has_text}
use Rattle.text.proofs.Signs.{within-columns}
use Rattle.text.proofs.fields.has_text.Goals as goal

pub returns : goal.returns
returns c = c.contains.ensures.value ∙ rw (c.new.ensures.start, c.new.ensures.end, c.new.ensures.exhausted) (within-columns _ ∙ ap has_text (to_z-of_z c.ranges.z))
