use Rattle.sheet.proofs.Ticking.{casts, counted-in-ticks}
use Rattle.sheet.proofs.cells.tick.Goals as goal

pub float_to_int-result : goal.float_to_int-result
float_to_int-result c = casts _ c.requires

pub returns : goal.returns
returns c = counted-in-ticks _ c.requires
