use Rattle.std.proofs.Common.{◌+◌, ◌-◌, ◌≤◌, drop}
use Rattle.listing.specs.Implementation.ListWriter.{put_widgets}
use Rattle.listing.specs.Implementation.Pens.{Writes}
use Rattle.listing.specs.declared.lines.Pen.{Pen}
use Rattle.listing.proofs.lines.Pen.put_widgets_from.Given as goal

-- whoever writes the lines to come has written all
abbrev pub invariant-loop-n : goal.invariant-loop-n
invariant-loop-n l =
    (l.first + l.k ≤ l.n)
    × ((q : Pen) → Writes (put_widgets (l.first + l.most - l.n) l.n l.k (drop l.next l.text) l.cells) l.self q → Writes (put_widgets l.most l.first 0 (drop l.from l.text) l.cells) l.initial.self q)
