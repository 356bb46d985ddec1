use Rattle.std.proofs.Common.{◌≡◌, w32, to_z, of_z, rules}
use Rattle.std.proofs.lemmas.Int.{to_z-of_z}
use Rattle.records.specs.Units.{in_steps}
use Rattle.records.proofs.Hundredths.{few-steps}
use Rattle.records.proofs.units.in_steps.Goals as goal

pub from_hundredths-requires : goal.from_hundredths-requires
from_hundredths-requires c =
    let e : to_z w32 (of_z w32 c.args.z) ≡ c.args.z = to_z-of_z w32 _ c.ranges.z in
    rw e c.requires

pub returns-in-Steps : goal.returns-in-Steps
unfolding in_steps
returns-in-Steps c =
    let e : to_z w32 (of_z w32 c.args.z) ≡ c.args.z = to_z-of_z w32 _ c.ranges.z in
    (rw (e, c.in-Steps.is), rw e c.requires)

pub returns-in-Hundredths : goal.returns-in-Hundredths
unfolding in_steps
returns-in-Hundredths c =
    let e : to_z w32 (of_z w32 c.args.z) ≡ c.args.z = to_z-of_z w32 _ c.ranges.z in
    let f : to_z w32 (of_z w32 c.from_hundredths.result) ≡ c.from_hundredths.result = search rules in
    (rw (f, c.from_hundredths.ensures, e, c.in-Hundredths.is), rw (f, c.from_hundredths.ensures, e) (few-steps _ c.requires))
