use Rattle.drawing.proofs.Ruling.{cut-in-bounds}
use Rattle.drawing.specs.Pages.{ruled}
use Rattle.std.proofs.Common.{refl, arith}
use Rattle.drawing.proofs.pages.ruled.Goals as goal

pub returns : goal.returns
unfolding ruled
returns c = rw c.cut.ensures (rw (c.bands_from-bands.ensures.0, c.max.ensures, c.min-short.ensures, c.max-long.ensures) refl, cut-in-bounds _ _ _ _ _ _ (omega arith) (omega arith) (omega arith) (omega arith) (omega arith) (omega (arith, c.bands_from-bands.ensures.2)))
