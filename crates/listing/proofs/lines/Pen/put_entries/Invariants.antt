use Rattle.std.proofs.Common.{drop}
use Rattle.listing.specs.Implementation.ListWriter.{put_entries}
use Rattle.listing.specs.Implementation.Pens.{Writes}
use Rattle.listing.specs.declared.lines.Pen.{Pen}
use Rattle.listing.proofs.lines.Pen.put_entries.Given as goal

-- whoever writes the entries to come has written all
abbrev pub invariant-loop-i : goal.invariant-loop-i
invariant-loop-i l = (q : Pen) → Writes (put_entries l.letter l.i (drop l.i l.entries)) l.self q → Writes (put_entries l.letter 0 l.entries) l.initial.self q
