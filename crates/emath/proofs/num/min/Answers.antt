use Rattle.std.proofs.Common.{sym, ◌∙◌, true≢false}
use Rattle.emath.specs.Rectangles.{min_f}
use Rattle.emath.proofs.num.min.Goals as goal
use Rattle.emath.proofs.num.min.Goals.{then-b-a, else-b-a}

pub returns-then-a : goal.returns-then-a
unfolding min_f
returns-then-a c = elim c.if-b-a.branch [ then-b-a w ↦ rw w.if-b-a.true | else-b-a w ↦ rw (w.if-b-a.false, ← w.value-is, c.if-a.true) ]

pub returns-else-a : goal.returns-else-a
unfolding min_f
returns-else-a c = elim c.if-b-a.branch [ then-b-a w ↦ absurd (true≢false (sym w.if-b-a.true ∙ (sym w.value-is ∙ c.if-a.false))) | else-b-a w ↦ rw (w.if-b-a.false, ← w.value-is, c.if-a.false) ]
