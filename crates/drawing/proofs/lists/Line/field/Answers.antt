use Rattle.text.proofs.Signs.{Same}
use Rattle.std.proofs.Common.{refl, rules}
use Rattle.drawing.proofs.Numbers.{field-small}
use Rattle.drawing.specs.Pieces.{field_of}
use Rattle.drawing.proofs.lists.Line.field.Goals as goal

pub returns : goal.returns
unfolding field_of
returns c = let e : Same c.value_of.result = search rules in let h = field-small _ _ in rw (e, c.value_of.ensures, c.read_field.ensures) (refl, h.0, h.1)
