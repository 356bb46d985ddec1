use Rattle.std.proofs.Common.{arith, refl, eqb, get_or}
use Rattle.text.proofs.ShortReads.{both, columns-read}
use Rattle.text.proofs.short.short_number.Goals as goal

pub returns-then-are_digits-four_spaces : goal.returns-then-are_digits-four_spaces
returns-then-are_digits-four_spaces c =
    let t = both c.are_digits.result c.four_spaces.result c.if-are_digits-four_spaces.true in
    let d = c.are_digits.ensures t.0 in
    rw c.number.ensures
    (columns-read c.args.f.now (omega arith) (eqb (get_or c.args.f.now 4 0) 32) refl (c.four_spaces.ensures t.1) (rw (← c.first_column.ensures) d.0) d.1 d.2 d.3)
