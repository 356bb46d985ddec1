use Rattle.std.proofs.Common.{refl}
use Rattle.sheet.specs.Implementation.Calls.{record_result}
use Rattle.sheet.proofs.steps.run_record.Goals as goal

pub returns-in_default : goal.returns-in_default
unfolding record_result
returns-in_default c = rw c.in_default.is (refl, refl)

pub run_step-requires : goal.run_step-requires
run_step-requires c = c.requires

pub returns : goal.returns
unfolding record_result
returns c = rw c.in-Some.is c.run_step.ensures
