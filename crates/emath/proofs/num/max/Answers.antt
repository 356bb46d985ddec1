use Rattle.std.proofs.Common.{sym, ◌∙◌, true≢false}
use Rattle.emath.specs.Rectangles.{max_f}
use Rattle.emath.proofs.num.max.Goals as goal
use Rattle.emath.proofs.num.max.Goals.{then-a-b, else-a-b}

pub returns-then-a : goal.returns-then-a
unfolding max_f
returns-then-a c = elim c.if-a-b.branch [ then-a-b w ↦ rw w.if-a-b.true | else-a-b w ↦ rw (w.if-a-b.false, ← w.value-is, c.if-a.true) ]

pub returns-else-a : goal.returns-else-a
unfolding max_f
returns-else-a c = elim c.if-a-b.branch [ then-a-b w ↦ absurd (true≢false (sym w.if-a-b.true ∙ (sym w.value-is ∙ c.if-a.false))) | else-a-b w ↦ rw (w.if-a-b.false, ← w.value-is, c.if-a.false) ]
