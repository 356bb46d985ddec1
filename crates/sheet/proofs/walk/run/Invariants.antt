use Rattle.std.proofs.Common.{◌≡◌, ◌+◌, ◌-◌, ◌*◌, ◌≤◌, length, drop}
use Rattle.emath.specs.Steps.{tick}
use Rattle.region.specs.Refusals.{zero_rect}
use Rattle.region.specs.Steps.{WholeRect}
use Rattle.placer.specs.Implementation.Lent.{placer_of}
use Rattle.records.specs.Sheets.{records_from, widgets}
use Rattle.records.specs.Implementation.SizeCache.{AreCached}
use Rattle.sheet.specs.Implementation.Calls.{Ready}
use Rattle.sheet.proofs.Walks.{walked}
use Rattle.sheet.proofs.walk.run.Given as goal

abbrev pub invariant-loop-n : goal.invariant-loop-n
invariant-loop-n l =
    let left = l.first + l.most - l.n in
    (length l.out ≡ length l.initial.out) × (l.at ≤ length l.text) × (8 * (l.w + widgets (records_from l.unit left (drop l.at l.text))) ≤ length l.out)
    × Ready l.placer l.s l.prev_widths l.prev_heights l.widths l.heights
    × (walked l.unit left l.spacing l.n (placer_of l.placer l.s l.prev_widths l.prev_heights l.widths l.heights) (drop l.at l.text) l.out l.w l.plate ≡ walked l.unit l.most l.spacing l.first (placer_of l.placer l.initial.s l.prev_widths l.prev_heights l.initial.widths l.initial.heights) (drop l.from l.text) l.initial.out 0 zero_rect)
    × AreCached l.unit left (drop l.at l.text) l.sizes l.n
    × WholeRect tick l.plate
