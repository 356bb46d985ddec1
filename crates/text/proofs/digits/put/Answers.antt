use Rattle.std.proofs.Common.{arith}
use Rattle.text.specs.Implementation.Writing.{spaces}
use Rattle.text.proofs.Writing.{minus-room, digits-alone, minus-put}
use Rattle.text.proofs.digits.put.Goals as goal

pub overflow_sub-out : goal.overflow_sub-out
overflow_sub-out c = omega (arith, minus-room c.args.neg 0 c.put_digits-first.result c.if-neg-first.true)

pub returns-then-neg-first : goal.returns-then-neg-first
unfolding spaces
returns-then-neg-first c = minus-put c.put_digits-first.ensures c.args.neg c.if-neg-first.true

pub returns-else-neg-first : goal.returns-else-neg-first
unfolding spaces
returns-else-neg-first c = digits-alone c.put_digits-first.ensures c.args.neg c.if-neg-first.false
