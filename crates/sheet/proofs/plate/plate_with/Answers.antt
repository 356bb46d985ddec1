use Rattle.std.proofs.Common.{refl}
use Rattle.sheet.specs.Implementation.Walks.{plate_with}
use Rattle.sheet.proofs.plate.plate_with.Goals as goal

pub returns-in-None : goal.returns-in-None
unfolding plate_with
returns-in-None c = rw c.in-None.is refl

pub returns-in-Some : goal.returns-in-Some
unfolding plate_with
returns-in-Some c = rw c.in-Some.is c.joined.ensures
