use Rattle.std.proofs.Common.{◌≡◌}
use Rattle.drawing.specs.Drawings.{seen}
use Rattle.drawing.proofs.pages.Plate.seen.Given as goal

abbrev pub invariant-loop-j : goal.invariant-loop-j
invariant-loop-j l = seen l.what l.self.page l.self.list.now l.j l.k ≡ seen l.what l.self.page l.self.list.now l.k l.k
