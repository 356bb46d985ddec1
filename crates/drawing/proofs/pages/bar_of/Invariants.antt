use Rattle.std.proofs.Common.{◌≡◌, ◌≤◌, ◌-◌}
use Rattle.drawing.specs.Pages.{bar_from}
use Rattle.drawing.proofs.pages.bar_of.Given as goal

abbrev pub invariant-loop : goal.invariant-loop
invariant-loop l = (l.bar ≤ 2097152) × (bar_from (21 - l.counter) l.bar l.unit ≡ bar_from 21 2097152 l.unit)
