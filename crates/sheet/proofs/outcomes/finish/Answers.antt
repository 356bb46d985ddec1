use Rattle.emath.proofs.Refusals.{number-some}
use Rattle.sheet.specs.Pass.{outcome_of, remembered}
use Rattle.sheet.specs.Slices.{laid_of}
use Rattle.sheet.proofs.outcomes.finish.Goals as goal

pub returns-in-Err : goal.returns-in-Err
unfolding outcome_of
returns-in-Err c r cs h e = let k = rw c.in-Err.is at h in rw (c.refused.ensures, k.0, k.1, number-some c.in-Err.e.refusal)

pub returns-then-grid : goal.returns-then-grid
unfolding outcome_of laid_of remembered
returns-then-grid c r cs h e = let k = rw c.in-Ok.is at h in let p = rw k at e in rw (k, ← p, c.if-grid.true, c.save_grid-saved.ensures, c.whole.ensures)

pub returns : goal.returns
unfolding outcome_of laid_of remembered
returns c r cs h e = let k = rw c.in-Ok.is at h in let p = rw k at e in rw (k, ← p, c.if-grid.false)
