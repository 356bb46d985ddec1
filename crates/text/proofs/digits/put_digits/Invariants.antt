use Rattle.std.proofs.Common.{◌-◌, ◌≤◌}
use Rattle.text.proofs.Writing.{DigitsSoFar}
use Rattle.text.proofs.digits.put_digits.Given as goal

abbrev pub invariant-loop-rest : goal.invariant-loop-rest
invariant-loop-rest l = record { before : l.i ≤ 8; digits : DigitsSoFar l.n l.initial.out l.i (8 - l.i) l.rest l.out }

abbrev pub decreases-loop-rest : goal.decreases-loop-rest
decreases-loop-rest l = l.rest
