-- RULES 6.21: passes in turn over one sheet.
use Rattle.std.specs.Prelude.{ℕ, zero, suc, true, false}
use Rattle.grid.specs.declared.Memory.{Memory}
use Rattle.sheet.specs.Pass.{Sheet, Outcome, pass}

-- RULES 6.21: pass n, from 0; the first is sizing and has no memory, m only standing beside the clear flag; each later one has the memory
-- of the one before, and is not sizing
unfoldable pub passes : ℕ → Sheet → Memory → ℕ → Outcome
passes k s m zero = pass k s false m true
passes k s m (suc n) = pass k s true (passes k s m n).memory false
