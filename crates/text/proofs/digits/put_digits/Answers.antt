use Rattle.std.proofs.Common.{arith}
use Rattle.text.proofs.Writing.{no-digit-yet, room-for-one, room-for-two, pair-more, all_done}
use Rattle.text.proofs.digits.put_digits.Goals as goal

pub loop-rest-init : goal.loop-rest-init
loop-rest-init c = record { before = omega arith; digits = no-digit-yet _ _ _ _ (omega arith) }

pub overflow_sub-i : goal.overflow_sub-i
overflow_sub-i c = omega (arith, room-for-two c.loop-rest.invariant.digits c.requires (omega arith))

pub loop-rest-preserved : goal.loop-rest-preserved
loop-rest-preserved c =
    let d = c.loop-rest.invariant.digits in
    let room = room-for-two d c.requires (omega arith) in
    record { before = omega arith; digits = rw c.put_pair.ensures (pair-more d _ _ c.loop-rest-test.true (omega (arith, room)) (omega (arith, room))) }

pub put_first-requires : goal.put_first-requires
put_first-requires c =
    let d = c.loop-rest.invariant.digits in
    (omega arith, omega arith, omega (arith, room-for-one d c.requires), λ two. omega (arith, room-for-two d c.requires two))

pub returns : goal.returns
returns c = all_done c.loop-rest.invariant.digits _ _ 8 c.requires (omega arith) (omega arith) (omega arith) c.put_first.ensures
