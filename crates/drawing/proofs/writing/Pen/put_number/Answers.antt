use Rattle.text.proofs.Signs.{Same}
use Rattle.std.proofs.Common.{refl, rules}
use Rattle.drawing.proofs.Pieces.{number_fits, number_put}
use Rattle.drawing.proofs.writing.Pen.put_number.Goals as goal

pub overflow_add-self : goal.overflow_add-self
overflow_add-self c = let e : Same c.args.z = search rules in let h = number_fits _ _ _ _ c.requires (rw (e, c.if-write_field.true) at c.write_field.ensures) in search rules

pub returns-then-write_field : goal.returns-then-write_field
returns-then-write_field c = let e : Same c.args.z = search rules in record { same_slice = refl; pieces = rw c.if-write_field.true at (number_put _ _ _ _ c.requires c.write_field.result (rw e at c.write_field.ensures)) }

pub returns-else-write_field : goal.returns-else-write_field
returns-else-write_field c = let e : Same c.args.z = search rules in record { same_slice = refl; pieces = rw c.if-write_field.false at (number_put _ _ _ _ c.requires c.write_field.result (rw e at c.write_field.ensures)) }
