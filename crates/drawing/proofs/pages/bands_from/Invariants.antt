use Rattle.std.proofs.Common.{◌≡◌}
use Rattle.drawing.specs.Pages.{bands_from}
use Rattle.drawing.proofs.pages.bands_from.Given as goal

abbrev pub invariant-loop-k : goal.invariant-loop-k
invariant-loop-k l = bands_from l.k l.long l.short ≡ bands_from l.n l.long l.short
