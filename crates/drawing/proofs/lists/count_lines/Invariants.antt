use Rattle.std.proofs.Common.{◌≡◌, ◌+◌, ◌-◌, ◌*◌, ◌≤◌, max, length}
use Rattle.drawing.specs.Pages.{lines_from}
use Rattle.drawing.proofs.lists.count_lines.Given as goal

-- the lines so far lie in the list, and those still to come are counted from where they end
abbrev pub invariant-loop-n : goal.invariant-loop-n
invariant-loop-n l = record {
  inside : l.from + l.size * l.n ≤ max l.from (length l.list);
  counted : l.n + lines_from (l.most - l.n) l.letter l.size l.list (l.from + l.size * l.n) ≡ lines_from l.most l.letter l.size l.list l.from;
}
