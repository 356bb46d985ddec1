use Rattle.std.proofs.Common.{w32}
use Rattle.std.proofs.lemmas.Int.{to_z-of_z}
use Rattle.records.proofs.Lengths.{casts, divided}
use Rattle.records.proofs.parts.points.Goals as goal

pub int_to_float-result : goal.int_to_float-result
int_to_float-result c = rw (to_z-of_z w32 c.args.z c.ranges.z) (casts c.args.z c.requires)

pub returns : goal.returns
returns c = rw (to_z-of_z w32 c.args.z c.ranges.z) (divided c.args.z c.requires)
