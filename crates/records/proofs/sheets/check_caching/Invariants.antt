use Rattle.std.proofs.Common.{◌≡◌, ◌+◌, ◌-◌, ◌≤◌, length, drop}
use Rattle.records.specs.Headings.{heading_in}
use Rattle.records.specs.Sheets.{records_from}
use Rattle.records.specs.Implementation.SizeCache.{cached_from, cached_by}
use Rattle.records.proofs.Reached.{Reached}
use Rattle.records.proofs.sheets.check_caching.Given as goal

abbrev pub invariant-loop-k : goal.invariant-loop-k
invariant-loop-k l =
    (l.w ≤ l.k) × (l.at ≤ length l.text) × Reached l.text l.at l.k l.w (512 - l.k)
    × (cached_from (l.k + 1) (records_from (heading_in l.text).unit (512 - l.k) (drop l.at l.text)) l.sizes ≡ cached_by l.text l.initial.sizes)
