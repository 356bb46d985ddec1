use Rattle.std.proofs.Common.{ap, ◌∙◌, to_z-of_z, arith}
use Rattle.text.specs.Fields.{text}
use Rattle.text.proofs.Writing.{text-put}
use Rattle.text.proofs.fields.put_signed.Goals as goal

pub returns : goal.returns
returns c = text-put _ _ c.args.out.now _ c.args.z (c.put_text.ensures ∙ ap text (to_z-of_z c.ranges.z)) (omega arith) (omega arith)
