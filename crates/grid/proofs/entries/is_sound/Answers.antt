use Rattle.std.proofs.Common.{sym}
use Rattle.emath.proofs.Refusals.{none-number}
use Rattle.grid.proofs.entries.is_sound.Goals as goal

pub returns : goal.returns
returns c = sym (rw (← c.extent_fault.ensures) (none-number _ _ c.is_none.ensures))
