use Rattle.std.proofs.Common.{arith, rules}
use Rattle.text.proofs.ScanTurns.{not-digit, few, seven, eight, value-end, value-turn}
use Rattle.text.proofs.fields.value.Goals as goal

pub returns-then-not-is_ascii_digit-clause-value : goal.returns-then-not-is_ascii_digit-clause-value
returns-then-not-is_ascii_digit-clause-value c =
    not-digit c.args.digits.now c.loop-b.n c.loop-b.b-index _ c.loop-b.invariant.rest c.loop-b-test.true c.if-not-is_ascii_digit.ensures.cases

pub overflow_mul-n : goal.overflow_mul-n
overflow_mul-n c =
    let p = seven c.loop-b.b-index (omega arith) in search rules

pub overflow_add-n : goal.overflow_add-n
overflow_add-n c =
    let p = seven c.loop-b.b-index (omega arith) in
    let d = c.if-not-is_ascii_digit.ensures.cases in search rules

pub loop-b-preserved : goal.loop-b-preserved
loop-b-preserved c =
    let d = c.if-not-is_ascii_digit.ensures.cases in record {
      few = few c.loop-b.n _ c.loop-b.b-index c.loop-b.invariant.few (omega arith);
      rest = value-turn c.args.digits.now c.loop-b.n c.loop-b.b-index _ c.loop-b.invariant.rest c.loop-b-test.true d.0 d.1;
    }

pub returns-clause-value : goal.returns-clause-value
returns-clause-value c = value-end c.args.digits.now c.loop-b.n c.loop-b.b-index _ c.loop-b.invariant.rest c.loop-b-test.false

pub returns-clause-bound : goal.returns-clause-bound
returns-clause-bound c = omega (arith, c.loop-b.invariant.few, eight c.loop-b.b-index (omega arith))
